use Rattle.std.proofs.Common.{sym, ◌∙◌}
use Rattle.kdl_text.proofs.Spacing.LineLoop.{line_starts, line_turn, line_end_text, line_end_lf, line_end_one, line_end_cr}
use Rattle.kdl_text.proofs.trivia.line_end.Goals as goal

pub line-init : goal.line-init
line-init c = line_starts _

pub returns-in-None : goal.returns-in-None
returns-in-None c =
    let (m, run, took) = c.in-None.ensures.took in
    line_end_text _ _ _ c.line.invariant run _ took

pub returns-in-Some-eq10 : goal.returns-in-Some-eq10
returns-in-Some-eq10 c =
    let (m, run, took) = c.in-Some-eq10.ensures.took in
    line_end_lf _ _ _ c.line.invariant run _ _ c.in-Some-eq10.field-0-test took

pub returns-in-Some-eq13 : goal.returns-in-Some-eq13
returns-in-Some-eq13 c =
    let (m, run, took) = c.in-Some-eq13.ensures.took in
    line_end_cr _ _ _ c.line.invariant run _ _ _ _ c.in-Some-eq13.field-0-test took c.eat.ensures

pub returns-in-Some : goal.returns-in-Some
returns-in-Some c =
    let (m, run, took) = c.in-Some.ensures.took in
    line_end_one _ _ _ c.line.invariant run _ _ (sym c.is_newline_char.ensures ∙ c.if-is_newline_char.true) c.in-Some.c-test.1 took

pub line-preserved : goal.line-preserved
line-preserved c =
    let (m, run, took) = c.in-Some.ensures.took in
    line_turn _ _ _ c.line.invariant run _ _ (sym c.is_newline_char.ensures ∙ c.if-is_newline_char.false) took
