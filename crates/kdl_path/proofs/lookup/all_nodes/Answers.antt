use Rattle.std.proofs.Common.{rules, ◌≡◌, ◌+◌, ◌++◌, ◌∷◌, [], drop, map, sym, ap, ◌∙◌}
use Rattle.std.proofs.lemmas.List.{drop_all, drop_more}
use Rattle.std.specs.List.{flat_map}
use Rattle.kdl.specs.Words.{child_nodes, nodes_of}
use Rattle.kdl_path.specs.Internal.Located.{named_in}
use Rattle.kdl_path.proofs.Reached.{all_reached, reached_first, reached_next}
use Rattle.kdl_path.proofs.lookup.all_nodes.Goals as goal

pub loop-step-init : goal.loop-step-init
loop-step-init c =
    let s = c.in-Some.first.now in
    let whole : c.args.steps.now ≡ s ∷ c.in-Some.below.now = search rules in
    let none : c.new-nodes.result.items ≡ [] = search rules in
    reached_first c.args.steps.now c.in-Some.below.now s (nodes_of c.args.document.now) (map (λ n. n.now) c.push_named.new.out.items) whole
    (c.in_ok-push_named.ensures ∙ ap (λ l. map (λ n. n.now) l ++ named_in s c.nodes.result.now) none ∙ ap (named_in s) c.nodes.ensures.value)

pub loop-step-preserved : goal.loop-step-preserved
loop-step-preserved c =
    let below = c.in-Some.below.now in
    let i = c.loop-step.step-index in
    let s = c.step-item.result in
    let rest = drop (i + 1) below in
    let e : drop i below ≡ s ∷ rest = drop_more below i s c.loop-step-test.true ∙ ap (λ x. x ∷ rest) (sym c.step-item.is) in
    reached_next (drop i below) rest s (map (λ n. n.now) c.loop-step.nodes.items) (map (λ n. n.now) c.in_ok-nodes.nodes.items) e
    (c.in_ok-nodes.ensures ∙ ap (λ l. flat_map (λ n. named_in s (child_nodes n)) (map (λ n. n.now) l)) c.deref.ensures.value)
    ∙ c.loop-step.invariant

pub returns : goal.returns
returns c =
    let below = c.in-Some.below.now in
    let i = c.loop-step.step-index in
    all_reached c.args.steps.now (drop i below) c.args.document.now c.loop-step.nodes.items (drop_all i below c.loop-step-test.false) c.loop-step.invariant
