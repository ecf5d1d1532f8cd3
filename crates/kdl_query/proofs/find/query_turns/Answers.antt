use Rattle.std.proofs.Common.{◌≡◌, [], ◌∷◌, ◌++◌, ◌∙◌, ap, arith, is_some, length, rules, subst, sym}
use Rattle.std.specs.List.{fold}
use Rattle.kdl.specs.Tree.{document_says}
use Rattle.kdl_query.specs.Tree.{query_says}
use Rattle.kdl_query.specs.Turns.{paths_from, turned}
use Rattle.kdl_query.specs.Internal.Turns.{Keeps}
use Rattle.kdl_query.specs.Internal.Visits.{Passes, came_to, chosen_paths, walk_due, walk_left}
use Rattle.kdl_query.specs.declared.walk.Walk.{Walk}
use Rattle.kdl_query.proofs.Choosing.{paths_found}
use Rattle.kdl_query.proofs.Counting.{all_counted}
use Rattle.kdl_query.proofs.Turning.{Finds, count_push, finds_none, finds_one, index_count, keeps_all, last_push, left_same, passes_shorter, paths_push}
use Rattle.kdl_query.proofs.find.query_turns.Goals as goal
use Rattle.kdl_query.proofs.find.query_turns.Goals.{then-visit+in_ok-turn+in_ok-push, else-visit}

pub loop-walk-init : goal.loop-walk-init
loop-walk-init c =
    let walk = c.in_ok-walk.walk in
    let none : c.new-turns.result.items ≡ [] = search rules in
    let count : index_count c.new-turns.result.items ≡ 0 = ap index_count none in
    record {
      found = ap (λ ts. paths_from [] ts ++ chosen_paths (walk_due walk)) none ∙ ap chosen_paths c.in_ok-walk.ensures.due;
      kept = subst (λ ts. Keeps (fold turned [] ts) walk) (sym none) c.in_ok-walk.ensures.kept.0;
      short = omega (arith, count, c.in_ok-walk.ensures.kept.1, ap length c.in_ok-walk.ensures.due, all_counted (query_says c.args.query.now) (document_says c.args.document.now));
    }

pub loop-walk-preserved : goal.loop-walk-preserved
loop-walk-preserved c =
    let x = document_says c.args.document.now in
    let q = query_says c.args.query.now in
    let v = c.in-Some.visit in
    let ts = c.loop-walk.turns.items in
    let walk = c.visit.new.self in
    let h = c.loop-walk.invariant in
    let some : Passes (walk_due c.loop-walk.walk) (came_to v walk ∷ walk_left v walk) = rw c.in-Some.is at c.in_ok-visit.ensures.due in
    let fewer = passes_shorter (walk_due c.loop-walk.walk) (walk_left v walk) (came_to v walk) some in
    let near = c.in_ok-visit.ensures.unkept (ap is_some c.in-Some.is) in
    let keeps = c.in_ok-visit.ensures.kept (fold turned [] ts) h.kept in
    elim c.if-visit.branch [
      | then-visit+in_ok-turn+in_ok-push w ↦
          let t = w.in_ok-turn.field-0 in
          let levels = ap (λ (a : Walk). a.levels) w.walk-is ∙ w.in_ok-turn.ensures.levels in
          let due = c.in_ok-enter.ensures.due ∙ left_same v c.if-visit.walk walk levels in
          let pushed : c.if-visit.turns.items ≡ ts ++ t ∷ [] = ap (λ f. f.items) w.turns-is ∙ w.in_ok-push.ensures.items in
          let at = w.in_ok-turn.ensures.turned (fold turned [] ts) keeps in
          let all = ap (λ (a : Walk). a.kept) w.walk-is ∙ w.in_ok-turn.ensures.kept in
          let long = ap (λ ls. length ls.items) levels in
          record {
            found = subst (λ l. Finds x q l (walk_due c.enter.new.self)) (sym (ap (paths_from []) pushed ∙ paths_push [] ts t ∙ ap (λ p. paths_from [] ts ++ p ∷ []) at))
                (finds_one x q (paths_from [] ts) (walk_due c.loop-walk.walk) (walk_left v walk) (walk_due c.enter.new.self) (came_to v walk) some w.if-visit.true due h.found);
            kept = c.in_ok-enter.ensures.kept _ (subst (λ p. Keeps p c.if-visit.walk) (sym (ap (fold turned []) pushed ∙ last_push [] ts t ∙ at)) (keeps_all walk c.if-visit.walk levels all));
            short = omega (arith, count_push ts c.if-visit.turns.items t pushed, w.in_ok-turn.ensures.short, c.in_ok-enter.ensures.unkept, all, long, ap length due, fewer, near, h.short);
          }
      | else-visit w ↦
          let due = c.in_ok-enter.ensures.due ∙ ap (walk_left v) w.walk-is in
          let same = ap (λ f. f.items) w.turns-is in
          record {
            found = subst (λ us. Finds x q (paths_from [] us) (walk_due c.enter.new.self)) (sym same) (finds_none x q (paths_from [] ts) (walk_due c.loop-walk.walk) (walk_left v walk) (walk_due c.enter.new.self) (came_to v walk) some w.if-visit.false due h.found);
            kept = c.in_ok-enter.ensures.kept _ (subst (λ us. Keeps (fold turned [] us) c.if-visit.walk) (sym same) (subst (Keeps (fold turned [] ts)) (sym w.walk-is) keeps));
            short = omega (arith, ap index_count same, c.in_ok-enter.ensures.unkept, ap (λ (a : Walk). length a.levels.items) w.walk-is, ap (λ (a : Walk). a.kept) w.walk-is, ap length due, fewer, near, h.short);
          }
    ]

pub returns-clause-selected : goal.returns-clause-selected
returns-clause-selected c =
    let none : Passes (walk_due c.loop-walk.walk) [] = rw c.in_default.is at c.in_ok-visit.ensures.due in
    paths_found (document_says c.args.document.now) (query_says c.args.query.now) (paths_from [] c.loop-walk.turns.items) (walk_due c.loop-walk.walk) none c.loop-walk.invariant.found

pub returns-clause-short : goal.returns-clause-short
returns-clause-short c = let h = c.loop-walk.invariant.short in omega (arith, h)
