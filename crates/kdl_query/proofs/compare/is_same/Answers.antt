use Rattle.std.proofs.Common.{◌≡◌, ◌∙◌, ap, refl, subst, sym}
use Rattle.kdl_value.specs.Tree.{value_tree}
use Rattle.kdl_value.specs.declared.value.KdlValue.{KdlValue}
use Rattle.kdl_query.specs.Decimal.{exact_order}
use Rattle.kdl_query.specs.Internal.Holds.{is_equal, is_same}
use Rattle.kdl_query.proofs.compare.is_same.Goals as goal

-- for each variant that is compared as a number
abbrev Numbers : KdlValue → KdlValue → Type 0
Numbers v x = is_equal (exact_order (value_tree x) (value_tree v)) ≡ is_same (value_tree x) (value_tree v)

pub returns-in-String : goal.returns-in-String
returns-in-String c = c.is_equal.ensures ∙ ap is_equal c.compare.ensures ∙ subst (Numbers c.args.literal.now) (sym c.in-String.is) refl

pub returns-in-Integer : goal.returns-in-Integer
returns-in-Integer c = c.is_equal-in-Integer.ensures ∙ ap is_equal c.compare-in-Integer.ensures ∙ subst (Numbers c.args.literal.now) (sym c.in-Integer.is) refl

pub returns-in-Float : goal.returns-in-Float
returns-in-Float c = c.is_equal-in-Float.ensures ∙ ap is_equal c.compare-in-Float.ensures ∙ subst (Numbers c.args.literal.now) (sym c.in-Float.is) refl
