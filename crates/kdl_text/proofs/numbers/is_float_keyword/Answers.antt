use Rattle.std.proofs.Common.{◌∙◌, refl, inl, inr}
use Rattle.kdl_text.proofs.Numeric.KeywordUnique.{infinity_text, negative_text, float_is}
use Rattle.kdl_text.proofs.numbers.is_float_keyword.Goals as goal

pub returns-then-same : goal.returns-then-same
returns-then-same c = (λ y. inl (c.if-same.ensures.0 refl ∙ infinity_text), λ f. refl)

pub returns-then-same-2 : goal.returns-then-same-2
returns-then-same-2 c = (λ y. inr (inl (c.if-same-2.ensures.0 refl ∙ negative_text)), λ f. refl)

pub returns : goal.returns
returns c = float_is c.if-same.ensures.1 c.if-same-2.ensures.1 c.same-3.ensures
