use Rattle.std.proofs.Common.{rules, ◌≡◌, ◌≤◌, ◌+◌, ℕ, arith, length, length-append, List, [], ◌∷◌, ◌++◌, None, Some, Option, option_map, slice_get, drop, take, refl, ap, ◌∙◌, sym, subst}
use Rattle.std.proofs.lemmas.List.{drop_all, drop_more, take_all, take_more}
use Rattle.std.proofs.lemmas.Option.{slice_get_past, slice_get_read}
use Rattle.kdl.specs.Words.{nodes_of}
use Rattle.kdl.specs.declared.node.KdlNode.{KdlNode}
use Rattle.kdl_parts.specs.EntryLists.{there}
use Rattle.kdl_path.specs.Internal.Located.{Leads, makes_new, walk}
use Rattle.kdl_path.specs.declared.path.Step.{Step}
use Rattle.kdl_path.proofs.Making.{made_first, made_from, made_last, made_lost, made_next, made_none}
use Rattle.kdl_path.proofs.Places.{IsReached, none_lost, reached_more, step_lost, step_stops, step_walks}
use Rattle.kdl_path.proofs.locate.locate.Goals as goal

pub returns-in_default-clause-nowhere : goal.returns-in_default-clause-nowhere
returns-in_default-clause-nowhere c = λ u.
    let ss = c.args.steps.now in
    let i = c.loop-step.step-index in
    let s = c.step-item.result in
    let ns = c.loop-step.nodes.now in
    let e : drop i ss ≡ s ∷ drop (i + 1) ss = drop_more ss i s c.loop-step-test.true ∙ ap (λ x. x ∷ drop (i + 1) ss) (sym c.step-item.is) in
    step_lost (drop i ss) (drop (i + 1) ss) s c.args.document.now ss ns (option_map (λ n. n.now) c.loop-step.located) e (ap (λ q. there q ns) (sym c.in_default.ensures)) c.loop-step.invariant.walks

pub returns-in_default-clause-loses : goal.returns-in_default-clause-loses
returns-in_default-clause-loses c = λ t.
    let ss = c.args.steps.now in
    let i = c.loop-step.step-index in
    let s = c.step-item.result in
    let ns = c.loop-step.nodes.now in
    let o = option_map (λ n. n.now) c.loop-step.located in
    let e : drop i ss ≡ s ∷ drop (i + 1) ss = drop_more ss i s c.loop-step-test.true ∙ ap (λ x. x ∷ drop (i + 1) ss) (sym c.step-item.is) in
    sym (c.loop-step.invariant.makes t) ∙ made_lost (drop i ss) (drop (i + 1) ss) s t ns o e (ap (λ q. there q ns) (sym c.in_default.ensures)) ∙ ap (λ n. makes_new (drop n ss) t ns) (sym c.loop-step.invariant.count)

pub returns-in_default-clause-stops : goal.returns-in_default-clause-stops
returns-in_default-clause-stops c =
    let ss = c.args.steps.now in
    let i = c.loop-step.step-index in
    let s = c.step-item.result in
    let ns = c.loop-step.nodes.now in
    let o = option_map (λ n. n.now) c.loop-step.located in
    let e : drop i ss ≡ s ∷ drop (i + 1) ss = drop_more ss i s c.loop-step-test.true ∙ ap (λ x. x ∷ drop (i + 1) ss) (sym c.step-item.is) in
    step_stops ss (drop (i + 1) ss) s i o c.loop-step.indices.items (nodes_of c.args.document.now) ns c.loop-step.invariant.count c.loop-step.invariant.reached e (ap (λ q. there q ns) (sym c.in_default.ensures))

pub returns-in_default-get-clause-nowhere : goal.returns-in_default-get-clause-nowhere
returns-in_default-get-clause-nowhere c = λ u.
    let ss = c.args.steps.now in
    let i = c.loop-step.step-index in
    let s = c.step-item.result in
    let ns = c.loop-step.nodes.now in
    let e : drop i ss ≡ s ∷ drop (i + 1) ss = drop_more ss i s c.loop-step-test.true ∙ ap (λ x. x ∷ drop (i + 1) ss) (sym c.step-item.is) in
    let past : slice_get ns c.in-Some.index ≡ None = slice_get_past ns c.in-Some.index (search rules) in
    step_lost (drop i ss) (drop (i + 1) ss) s c.args.document.now ss ns (option_map (λ n. n.now) c.loop-step.located) e (ap (λ q. there q ns) (sym c.in-Some.ensures) ∙ past) c.loop-step.invariant.walks

pub returns-in_default-get-clause-loses : goal.returns-in_default-get-clause-loses
returns-in_default-get-clause-loses c = λ t.
    let ss = c.args.steps.now in
    let i = c.loop-step.step-index in
    let s = c.step-item.result in
    let ns = c.loop-step.nodes.now in
    let o = option_map (λ n. n.now) c.loop-step.located in
    let e : drop i ss ≡ s ∷ drop (i + 1) ss = drop_more ss i s c.loop-step-test.true ∙ ap (λ x. x ∷ drop (i + 1) ss) (sym c.step-item.is) in
    let past : slice_get ns c.in-Some.index ≡ None = slice_get_past ns c.in-Some.index (search rules) in
    sym (c.loop-step.invariant.makes t) ∙ made_lost (drop i ss) (drop (i + 1) ss) s t ns o e (ap (λ q. there q ns) (sym c.in-Some.ensures) ∙ past) ∙ ap (λ n. makes_new (drop n ss) t ns) (sym c.loop-step.invariant.count)

pub returns-in_default-get-clause-stops : goal.returns-in_default-get-clause-stops
returns-in_default-get-clause-stops c =
    let ss = c.args.steps.now in
    let i = c.loop-step.step-index in
    let s = c.step-item.result in
    let ns = c.loop-step.nodes.now in
    let o = option_map (λ n. n.now) c.loop-step.located in
    let e : drop i ss ≡ s ∷ drop (i + 1) ss = drop_more ss i s c.loop-step-test.true ∙ ap (λ x. x ∷ drop (i + 1) ss) (sym c.step-item.is) in
    let past : slice_get ns c.in-Some.index ≡ None = slice_get_past ns c.in-Some.index (search rules) in
    step_stops ss (drop (i + 1) ss) s i o c.loop-step.indices.items (nodes_of c.args.document.now) ns c.loop-step.invariant.count c.loop-step.invariant.reached e (ap (λ q. there q ns) (sym c.in-Some.ensures) ∙ past)

pub loop-step-init : goal.loop-step-init
loop-step-init c =
    let ss = c.args.steps.now in
    let d = c.args.document.now in
    let same : c.nodes-nodes.result.now ≡ nodes_of d = search rules in
    let none : c.new-indices.result.items ≡ [] = search rules in
    record {
      walks = ap (walk ss None) same;
      reached = (refl, none, same);
      count = ap length none;
      makes = λ t. ap (made_from ss t None) same ∙ made_first ss t d;
    }

pub loop-step-preserved : goal.loop-step-preserved
loop-step-preserved c =
    let ss = c.args.steps.now in
    let i = c.loop-step.step-index in
    let s = c.step-item.result in
    let ns = c.loop-step.nodes.now in
    let o = option_map (λ n. n.now) c.loop-step.located in
    let rest = drop (i + 1) ss in
    let at = c.in-Some.index in
    let k = c.in-Some-get.node.now in
    let before = c.loop-step.indices.items in
    let e : drop i ss ≡ s ∷ rest = drop_more ss i s c.loop-step-test.true ∙ ap (λ x. x ∷ rest) (sym c.step-item.is) in
    let there : slice_get ns at ≡ Some k = slice_get_read ns (length ns) at k refl (search rules) (search rules) in
    let items : c.push.new.self.items ≡ before ++ (at ∷ []) = search rules in
    let more : take (i + 1) ss ≡ take i ss ++ (s ∷ []) = take_more ss i s c.loop-step-test.true ∙ ap (λ x. take i ss ++ (x ∷ [])) (sym c.step-item.is) in
    record {
      walks = ap (walk rest (Some k)) c.child_nodes-nodes.ensures ∙ step_walks (drop i ss) rest s ns o at k e (sym c.in-Some.ensures) there ∙ c.loop-step.invariant.walks;
      reached = (
        subst (λ (l : List Step). Leads l c.push.new.self.items (nodes_of c.args.document.now) None k) (sym more)
            (subst (λ (l : List ℕ). Leads (take i ss ++ (s ∷ [])) l (nodes_of c.args.document.now) None k) (sym items)
            (reached_more o (take i ss) before (nodes_of c.args.document.now) ns s at k c.loop-step.invariant.reached (sym c.in-Some.ensures) there)),
        c.child_nodes-nodes.ensures,
      );
      count = ap length items ∙ omega (arith, length-append before (at ∷ []), c.loop-step.invariant.count);
      makes = λ t. ap (made_from rest t (Some k)) c.child_nodes-nodes.ensures ∙ made_next (drop i ss) rest s t ns o at k e (sym c.in-Some.ensures) there ∙ c.loop-step.invariant.makes t;
    }

pub returns-in-Some-located-clause-leads : goal.returns-in-Some-located-clause-leads
returns-in-Some-located-clause-leads c =
    let ss = c.args.steps.now in
    let i = c.loop-step.step-index in
    let n = c.in-Some-located.node.now in
    let o = option_map (λ n. n.now) c.loop-step.located in
    let found : o ≡ Some n = search rules in
    let past : length ss ≤ i = search rules in
    let reached : IsReached (Some n) (take i ss) c.loop-step.indices.items (nodes_of c.args.document.now) c.loop-step.nodes.now = subst (λ (q : Option KdlNode). IsReached q (take i ss) c.loop-step.indices.items (nodes_of c.args.document.now) c.loop-step.nodes.now) found c.loop-step.invariant.reached in
    subst (λ (l : List Step). Leads l c.loop-step.indices.items (nodes_of c.args.document.now) None n) (take_all i ss past) reached.0

pub returns-in-Some-located-clause-makes : goal.returns-in-Some-located-clause-makes
returns-in-Some-located-clause-makes c = λ t.
    let ss = c.args.steps.now in
    let i = c.loop-step.step-index in
    let n = c.in-Some-located.node.now in
    let o = option_map (λ n. n.now) c.loop-step.located in
    let found : o ≡ Some n = search rules in
    let past : length ss ≤ i = search rules in
    sym (c.loop-step.invariant.makes t) ∙ made_last (drop i ss) t c.loop-step.nodes.now o n (drop_all i ss past) found

pub returns-clause-loses : goal.returns-clause-loses
returns-clause-loses c = λ t.
    let ss = c.args.steps.now in
    let i = c.loop-step.step-index in
    let o = option_map (λ n. n.now) c.loop-step.located in
    let none : o ≡ None = search rules in
    let past : length ss ≤ i = search rules in
    sym (c.loop-step.invariant.makes t) ∙ made_none (drop i ss) t c.loop-step.nodes.now o (drop_all i ss past) none

pub returns-clause-nowhere : goal.returns-clause-nowhere
returns-clause-nowhere c = λ u.
    let ss = c.args.steps.now in
    let i = c.loop-step.step-index in
    let o = option_map (λ n. n.now) c.loop-step.located in
    let ns = c.loop-step.nodes.now in
    let none : o ≡ None = search rules in
    let past : length ss ≤ i = search rules in
    none_lost c.args.document.now ss (sym c.loop-step.invariant.walks ∙ ap (λ l. walk l o ns) (drop_all i ss past) ∙ none)
