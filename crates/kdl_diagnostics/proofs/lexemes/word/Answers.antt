use Rattle.std.proofs.Common.{arith}
use Rattle.kdl_text.proofs.Looking.MovesJoin.{fewer_bytes}
use Rattle.kdl_diagnostics.proofs.Passing.{ends_in}
use Rattle.kdl_diagnostics.proofs.lexemes.word.Goals as goal

pub new-lexeme-requires : goal.new-lexeme-requires
new-lexeme-requires c = ends_in _ _ _ c.requires.since.before c.value_end-end.ensures.end.ends

pub returns-clause-lexeme : goal.returns-clause-lexeme
returns-clause-lexeme c =
    let s = c.new-lexeme.ensures in
    record { stands = record { start = s.start; end = s.end; backslash = s.backslash; comment = s.comment }; went = omega (arith, c.requires.went, fewer_bytes c.value_end-end.ensures.reads.moves) }
