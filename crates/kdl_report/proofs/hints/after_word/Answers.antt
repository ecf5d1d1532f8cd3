use Rattle.std.proofs.Common.{sym, ◌∙◌}
use Rattle.kdl_report.proofs.HintSteps.{word_on}
use Rattle.kdl_report.proofs.hints.after_word.Goals as goal

pub loop-c-preserved : goal.loop-c-preserved
loop-c-preserved c =
    let i = c.loop-c.invariant.1 in
    (c.in-Some.ensures.utf8, word_on _ i.0 _ _ c.in-Some.c i.1 i.2 c.in-Some.ensures.parts (sym c.is_identifier_char.ensures ∙ c.if-not-is_identifier_char.false))
