use Rattle.std.proofs.Common.{◌≡◌, [], ◌∷◌, ◌++◌, Some, map, ap, rules, subst, sym, ◌∙◌}
use Rattle.std.proofs.lemmas.List.{map-append}
use Rattle.std.proofs.lemmas.Simd.{map-map}
use Rattle.kdl.specs.Tree.{document_says, node_says}
use Rattle.kdl_query.specs.Held.{held_at}
use Rattle.kdl_query.specs.Selects.{AreSelected}
use Rattle.kdl_query.specs.Tree.{query_says}
use Rattle.kdl_query.specs.Internal.Visits.{Passes, chosen_paths, came_to, levels_of, path_of, walk_due, walk_left}
use Rattle.kdl_query.proofs.HeldWalk.{Finds, finds_none, finds_one, held_found, held_selected}
use Rattle.kdl_query.proofs.find.query_all.Goals as goal
use Rattle.kdl_query.proofs.find.query_all.Goals.{then-visit+in_ok-push, else-visit}

pub loop-walk-init : goal.loop-walk-init
loop-walk-init c =
    let none : c.new-found.result.items ≡ [] = search rules in record {
      found = ap (λ ns. map (λ n. Some n.now) ns ++ map (λ p. held_at p c.args.document.now) (chosen_paths (walk_due c.in_ok-walk.walk))) none ∙ ap (λ vs. map (λ p. held_at p c.args.document.now) (chosen_paths vs)) c.in_ok-walk.ensures.due;
      over = c.in_ok-walk.ensures.over;
    }

pub loop-walk-preserved : goal.loop-walk-preserved
loop-walk-preserved c =
    let d = c.args.document.now in
    let q = query_says c.args.query.now in
    let v = c.in-Some.visit in
    let walk = c.visit.new.self in
    let found = c.loop-walk.found.items in
    let some : Passes (walk_due c.loop-walk.walk) (came_to v walk ∷ walk_left v walk) = rw c.in-Some.is at c.in_ok-visit.ensures.due in
    let over = c.in_ok-visit.ensures.over d c.loop-walk.invariant.over in
    let at : held_at (path_of (levels_of walk)) d ≡ Some v.node.now = rw c.in-Some.is at c.in_ok-visit.ensures.held d c.loop-walk.invariant.over in
    record {
      found = elim c.if-visit.branch [
        | then-visit+in_ok-push w ↦ subst (λ ns. Finds d q ns (walk_due c.enter.new.self)) (sym (ap (λ ns. map (λ n. Some n.now) ns) (ap (λ f. f.items) w.found-is ∙ w.in_ok-push.ensures.items) ∙ map-append (λ n. Some n.now) found (v.node ∷ [])))
            (finds_one d q (map (λ n. Some n.now) found) (walk_due c.loop-walk.walk) (walk_left v walk) (walk_due c.enter.new.self) (came_to v walk) v.node.now some w.if-visit.true at c.in_ok-enter.ensures.due c.loop-walk.invariant.found)
        | else-visit w ↦ subst (λ ns. Finds d q ns (walk_due c.enter.new.self)) (ap (λ f. map (λ n. Some n.now) f.items) (sym w.found-is))
            (finds_none d q (map (λ n. Some n.now) found) (walk_due c.loop-walk.walk) (walk_left v walk) (walk_due c.enter.new.self) (came_to v walk) some w.if-visit.false c.in_ok-enter.ensures.due c.loop-walk.invariant.found)
      ];
      over = c.in_ok-enter.ensures.over d over at;
    }

pub returns-clause-held : goal.returns-clause-held
returns-clause-held c =
    let d = c.args.document.now in
    let q = query_says c.args.query.now in
    let found = c.loop-walk.found.items in
    let none : Passes (walk_due c.loop-walk.walk) [] = rw c.in_default.is at c.in_ok-visit.ensures.due in
    held_found d q (map (λ n. n.now) found) (walk_due c.loop-walk.walk) none
    (subst (λ ns. Finds d q ns (walk_due c.loop-walk.walk)) (sym (map-map Some (λ n. n.now) found)) c.loop-walk.invariant.found)

pub returns-clause-selected : goal.returns-clause-selected
returns-clause-selected c =
    subst (AreSelected (document_says c.args.document.now) (query_says c.args.query.now)) (map-map node_says (λ n. n.now) c.loop-walk.found.items) (held_selected c.args.document.now (query_says c.args.query.now) (map (λ n. n.now) c.loop-walk.found.items) (returns-clause-held c))
