use Rattle.std.proofs.Common.{sym, ◌∙◌}
use Rattle.kdl_text.proofs.Quoted.EscapedSpaceLoop.{blank_turn, blank_ends, no_blank, blank_over}
use Rattle.kdl_text.proofs.strings.skip_blanks.Goals as goal

pub blanks-preserved : goal.blanks-preserved
blanks-preserved c = blank_turn _ _ _ _ _ c.blanks.invariant c.in-Some.ensures.result c.look.ensures.moved (sym c.is_blank.ensures ∙ c.if-not-is_blank.false) c.step.ensures

pub returns-then-not-is_blank : goal.returns-then-not-is_blank
returns-then-not-is_blank c = blank_ends _ _ _ c.blanks.invariant c.look.ensures.moved (no_blank _ _ c.in-Some.ensures.result (sym c.is_blank.ensures ∙ c.if-not-is_blank.true))

pub returns : goal.returns
returns c = blank_ends _ _ _ c.blanks.invariant c.look.ensures.moved (blank_over _ (sym c.in_default.is ∙ c.look.ensures.result))
