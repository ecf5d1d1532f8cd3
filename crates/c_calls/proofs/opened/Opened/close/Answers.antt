use Rattle.std.proofs.Common.{rules, ◌≡◌, ◌++◌, [], ◌∷◌, ap, ◌∙◌, sym}
use Rattle.kdl.specs.Words.{document_tree}
use Rattle.c_calls.specs.Internal.Opened.{plugged}
use Rattle.c_calls.proofs.OpenSteps.{plugged_last}
use Rattle.c_calls.proofs.opened.Opened.close.Goals as goal

pub loop-last-preserved : goal.loop-last-preserved
loop-last-preserved c =
    let rest = c.pop.new.self.items in
    let last = c.in-Some.last in
    let b = document_tree c.loop-last.block in
    let popped : c.loop-last.above.items ≡ rest ++ last ∷ [] = search rules in
    ap (plugged rest) c.put_block.ensures ∙ sym (plugged_last rest last b) ∙ ap (λ m. plugged m b) (sym popped) ∙ c.loop-last.invariant
