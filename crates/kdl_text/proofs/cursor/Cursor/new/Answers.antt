use Rattle.std.proofs.Common.{arith}
use Rattle.kdl_text.proofs.Looking.Parts.{part_whole}
use Rattle.kdl_text.proofs.cursor.Cursor.new.Goals as goal

pub invariant_of-result : goal.invariant_of-result
invariant_of-result c = (omega arith, part_whole _)
