use Rattle.std.proofs.Common.{ap}
use Rattle.kdl_text.proofs.Looking.Parts.{part_moved, part_same}
use Rattle.kdl_diagnostics.proofs.lexemes.number_fault.Goals as goal

pub go_to-requires : goal.go_to-requires
go_to-requires c = part_moved (part_same c.enter-place.ensures.part (ap (λ z. z.text) c.enter-place.ensures.inside)) c.read_number-answer.ensures.moves
