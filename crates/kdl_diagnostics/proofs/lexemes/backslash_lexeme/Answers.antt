use Rattle.std.proofs.Common.{arith}
use Rattle.kdl_text.proofs.Looking.MovesJoin.{fewer_bytes}
use Rattle.kdl_diagnostics.proofs.LexemeMoves.{end_in, lexes}
use Rattle.kdl_diagnostics.proofs.Passing.{reads_then, reads_up}
use Rattle.kdl_diagnostics.proofs.lexemes.backslash_lexeme.Goals as goal

pub new-requires : goal.new-requires
new-requires c = end_in _ c.checkpoint-start.ensures.rest c.end_at_backslash.ensures.goes.reads.moves c.value_end-end.ensures.end

pub returns-in_default : goal.returns-in_default
returns-in_default c =
    let g = c.end_at_backslash.ensures.goes in
    let r = c.value_end-end.ensures.reads in
    lexes c.checkpoint-start.ensures.rest c.new.ensures (reads_then (reads_up 12 g.reads) r) (omega (arith, g.went, fewer_bytes r.moves))
