use Rattle.std.proofs.Common.{arith, ◌≡◌, ◌∙◌, length, refl}
use Rattle.lsp.proofs.Nesting.{wrote}
use Rattle.lsp.proofs.Trees.{first_level, none_left, pushed}
use Rattle.lsp.proofs.symbols.put_nodes.Goals as goal

pub loop-level-init : goal.loop-level-init
loop-level-init c = wrote _ _ _ _ _ c.in_ok-begin_array.ensures refl ∙ first_level _ _ _ _ c.new-levels.ensures.items c.in_ok-push.ensures.items refl

pub loop-level-preserved : goal.loop-level-preserved
loop-level-preserved c = c.in_ok-put_next.ensures.nesting _ (c.loop-level.invariant ∙ pushed _ c.pop.new.self.items _ _ c.in-Some.ensures.items)

pub returns : goal.returns
returns c =
    let none : length c.loop-level.levels.items ≡ 0 = omega (arith, c.in_default.ensures.cases.0) in
    c.loop-level.invariant ∙ none_left _ c.loop-level.levels.items none
