use Rattle.std.proofs.Common.{sym, ◌∙◌}
use Rattle.kdl_text.specs.Chars.{is_sign}
use Rattle.kdl_text.proofs.Numeric.NumberReads.{sign_read, sign_none, one_here, none_here}
use Rattle.kdl_text.proofs.numbers.read_sign.Goals as goal

pub returns-in-Some : goal.returns-in-Some
returns-in-Some c = sign_read _ _ _ _ c.in-Some.ensures.result (sym c.is_sign.ensures ∙ c.if-is_sign.true) c.look.ensures.moved c.step.ensures

pub returns-in_default : goal.returns-in_default
returns-in_default c = sign_none _ _ c.look.ensures.moved (one_here is_sign _ _ c.in-Some.ensures.result ∙ sym c.is_sign.ensures ∙ c.if-is_sign.false)

pub returns-in_default-2 : goal.returns-in_default-2
returns-in_default-2 c = sign_none _ _ c.look.ensures.moved (none_here is_sign _ (sym c.in_default.is ∙ c.look.ensures.result))
