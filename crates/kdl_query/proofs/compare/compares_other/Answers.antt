use Rattle.std.proofs.Common.{◌≡◌, ◌∙◌, ap, refl, subst, sym}
use Rattle.kdl_value.specs.Tree.{value_tree}
use Rattle.kdl_value.specs.declared.value.KdlValue.{KdlValue}
use Rattle.kdl_query.specs.Decimal.{exact_order}
use Rattle.kdl_query.specs.Internal.Holds.{compares_other, is_ordered_if}
use Rattle.kdl_query.specs.declared.tree.Comparison.{Comparison}
use Rattle.kdl_query.proofs.compare.compares_other.Goals as goal

-- for each comparison that is an order
abbrev Orders : KdlValue → KdlValue → Comparison → Type 0
Orders x v k = is_ordered_if k (exact_order (value_tree x) (value_tree v)) ≡ compares_other k (value_tree x) (value_tree v)

pub returns-in-Greater : goal.returns-in-Greater
returns-in-Greater c =
    c.is_ordered_if.ensures ∙ ap (is_ordered_if c.args.comparison) c.compare.ensures ∙ subst (Orders c.args.value.now c.args.literal.now) (sym c.in-Greater.is) refl

pub returns-in-GreaterOrEqual : goal.returns-in-GreaterOrEqual
returns-in-GreaterOrEqual c =
    c.is_ordered_if-in-GreaterOrEqual.ensures ∙ ap (is_ordered_if c.args.comparison) c.compare-in-GreaterOrEqual.ensures ∙ subst (Orders c.args.value.now c.args.literal.now) (sym c.in-GreaterOrEqual.is) refl

pub returns-in-Less : goal.returns-in-Less
returns-in-Less c =
    c.is_ordered_if-in-Less.ensures ∙ ap (is_ordered_if c.args.comparison) c.compare-in-Less.ensures ∙ subst (Orders c.args.value.now c.args.literal.now) (sym c.in-Less.is) refl

pub returns-in-LessOrEqual : goal.returns-in-LessOrEqual
returns-in-LessOrEqual c =
    c.is_ordered_if-in-LessOrEqual.ensures ∙ ap (is_ordered_if c.args.comparison) c.compare-in-LessOrEqual.ensures ∙ subst (Orders c.args.value.now c.args.literal.now) (sym c.in-LessOrEqual.is) refl
