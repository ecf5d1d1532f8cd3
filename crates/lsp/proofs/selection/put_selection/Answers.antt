use Rattle.std.proofs.Common.{arith, ◌≡◌, ◌∙◌, ap}
use Rattle.lsp.specs.Internal.Nesting.{in_objects}
use Rattle.lsp.proofs.Nesting.{one_less, one_more, wrote}
use Rattle.lsp.proofs.selection.put_selection.Goals as goal

pub loop-span-preserved : goal.loop-span-preserved
loop-span-preserved c = (
  omega (arith, c.in-Some.ensures.cases),
  λ n is. c.in_ok-put_range.ensures.members _ (c.in_ok-begin_range.ensures n (c.loop-span.invariant.1 n is)) ∙ one_more c.loop-span.depth _ n (omega arith),
)

pub loop-depth-preserved : goal.loop-depth-preserved
loop-depth-preserved c n is = wrote _ _ _ _ _ c.in_ok-end_object.ensures (c.loop-depth.invariant n is) ∙ one_less c.loop-depth.depth _ n (omega arith)

pub returns : goal.returns
returns c n is =
    let none : c.loop-depth.depth ≡ 0 = omega arith in
    c.loop-depth.invariant n is ∙ ap (λ k. in_objects k n) none
