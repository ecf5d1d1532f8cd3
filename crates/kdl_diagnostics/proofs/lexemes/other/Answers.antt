use Rattle.std.proofs.Common.{arith}
use Rattle.kdl_text.proofs.Looking.MovesJoin.{fewer_bytes}
use Rattle.kdl_diagnostics.proofs.LexemeMoves.{end_in, lexes}
use Rattle.kdl_diagnostics.proofs.Passing.{reads_then, reads_up, stepped_there}
use Rattle.kdl_diagnostics.proofs.lexemes.other.Goals as goal

pub new-requires : goal.new-requires
new-requires c = end_in _ c.checkpoint-start.ensures.rest (stepped_there _ _ c.requires c.step.ensures).reads.moves c.value_end-end.ensures.end

pub returns : goal.returns
returns c =
    let s = stepped_there _ _ c.requires c.step.ensures in
    let r = c.value_end-end.ensures.reads in
    lexes c.checkpoint-start.ensures.rest c.new.ensures (reads_then (reads_up 24 s.reads) r) (omega (arith, s.went, fewer_bytes r.moves))
