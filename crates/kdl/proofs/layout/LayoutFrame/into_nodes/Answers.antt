use Rattle.kdl.proofs.Common.{rules, arith, refl, sym, ap, ◌≡◌, ◌∙◌, [], whole}
use Rattle.kdl.proofs.layout.LayoutFrame.into_nodes.Goals as goal

pub closing-init : goal.closing-init
closing-init c = refl

pub closing-smaller : goal.closing-smaller
closing-smaller c = omega (arith, c.in-Some.ensures.cases)

pub closing-preserved : goal.closing-preserved
closing-preserved c = c.close.ensures c.pop.new.self.items ∙ ap (λ z. whole z c.closing.self) (sym c.in-Some.ensures.items) ∙ c.closing.invariant

pub returns : goal.returns
returns c =
    let none : [] ≡ c.closing.above.items = search rules in
    ap (λ z. whole z c.closing.self) none ∙ c.closing.invariant
