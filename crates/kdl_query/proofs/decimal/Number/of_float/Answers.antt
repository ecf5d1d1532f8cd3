use Rattle.std.proofs.Common.{[]}
use Rattle.kdl_query.specs.Decimal as exact
use Rattle.kdl_text.specs.Numbers.{Decimal as IsDecimalText}
use Rattle.std.proofs.Common.{ap, sym, subst, ◌∙◌, Some}
use Rattle.kdl_text.specs.Chars.{Text}
use Rattle.kdl_query.proofs.Exact.Floats.{is_infinity, is_negative_infinity, is_no_number, is_decimal, float_is}
use Rattle.kdl_query.proofs.decimal.Number.of_float.Goals as goal

-- src/decimal.rt:286:41
pub of_text-requires-clause-text : goal.of_text-requires-clause-text
of_text-requires-clause-text c = let P : Text → Type 0 = λ t. IsDecimalText t [] t in subst P (sym c.as_bytes.ensures.value)
    (is_decimal c.args.float.now c.as_str.result.now c.as_str.utf8 c.as_str.ensures c.in_default.not-text c.in_default.not-text-2 c.in_default.not-text-3)

-- src/decimal.rt:278:5
pub returns-in-text-clause-is : goal.returns-in-text-clause-is
returns-in-text-clause-is c = is_infinity c.args.float.now c.as_str.result.now c.as_str.utf8 c.as_str.ensures c.in-text.is

-- src/decimal.rt:278:5
pub returns-in-text-2-clause-is : goal.returns-in-text-2-clause-is
returns-in-text-2-clause-is c = is_negative_infinity c.args.float.now c.as_str.result.now c.as_str.utf8 c.as_str.ensures c.in-text-2.is

-- src/decimal.rt:278:5
pub returns-in-text-3-clause-is : goal.returns-in-text-3-clause-is
returns-in-text-3-clause-is c = is_no_number c.args.float.now c.as_str.result.now c.as_str.utf8 c.as_str.ensures c.in-text-3.is

-- src/decimal.rt:278:5
pub returns-in_default-clause-is : goal.returns-in_default-clause-is
returns-in_default-clause-is c = ap (λ (x : exact.Rational). Some (exact.finite x)) (c.of_text.ensures.is ∙ ap exact.rational_of c.as_bytes.ensures.value)
    ∙ float_is c.args.float.now c.as_str.result.now c.as_str.utf8 c.as_str.ensures c.in_default.not-text c.in_default.not-text-2 c.in_default.not-text-3
