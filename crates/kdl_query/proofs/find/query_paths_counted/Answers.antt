use Rattle.std.proofs.Common.{◌≡◌, [], ◌∷◌, ◌++◌, ◌+◌, ◌*◌, ◌∙◌, Global, refl, List, Vec, ap, arith, length, map, rules, subst, sym, ℕ}
use Rattle.std.proofs.lemmas.List.{map-append}
use Rattle.std.proofs.lemmas.List.Sums.{sum_by-append, sum_by-cons}
use Rattle.std.specs.List.{sum_by}
use Rattle.kdl.specs.Tree.{document_says, node_says}
use Rattle.kdl_text.specs.Spans.{raise}
use Rattle.kdl_query.specs.Counts.{block_count, node_count, part_count}
use Rattle.kdl_query.specs.Selects.{Path}
use Rattle.kdl_query.specs.Tree.{query_says}
use Rattle.kdl_query.specs.Internal.Visits.{Passes, came_to, chosen_paths, copies, last_parts, level_says, levels_of, steps_of, walk_due, walk_left}
use Rattle.kdl_query.specs.declared.walk.Walk.{Walk}
use Rattle.kdl_query.proofs.Choosing.{paths_found}
use Rattle.kdl_query.proofs.Counting.{all_steps, raised_path}
use Rattle.kdl_query.proofs.Turning.{Finds, finds_none, finds_one, left_same}
use Rattle.kdl_query.proofs.find.query_paths_counted.Goals as goal
use Rattle.kdl_query.proofs.find.query_paths_counted.Goals.{then-visit+in_ok-path+in_ok-push, else-visit}

abbrev indices : List (Vec ℕ Global) → ℕ
indices ps = sum_by (λ p. length p.items) ps

indices_push : (ps qs : List (Vec ℕ Global)) (p : Vec ℕ Global) → qs ≡ ps ++ p ∷ [] → indices qs ≡ indices ps + length p.items
indices_push ps qs p e =
    let none : indices [] ≡ 0 = refl in
    let a = sum_by-append (λ (r : Vec ℕ Global). length r.items) ps (p ∷ []) in
    let b = sum_by-cons (λ (r : Vec ℕ Global). length r.items) p [] in
    let c = ap indices e in
    omega (arith, a, b, c, none)

pub loop-walk-init : goal.loop-walk-init
loop-walk-init c =
    let due = c.in_ok-walk.ensures.due in
    let none : c.new-found.result.items ≡ [] = search rules in
    let sum : sum_by (λ p. length p.items) c.new-found.result.items ≡ 0 = ap (sum_by (λ p. length p.items)) none in
    record {
      paths = ap (λ (ps : List (Vec ℕ Global)). map (λ p. p.items) ps ++ chosen_paths (walk_due c.in_ok-walk.walk)) none ∙ ap chosen_paths due;
      counted = omega (arith, c.in_ok-walk.ensures.counted, ap steps_of due, sum, all_steps (query_says c.args.query.now) (document_says c.args.document.now));
    }

pub loop-walk-preserved : goal.loop-walk-preserved
loop-walk-preserved c =
    let x = document_says c.args.document.now in
    let q = query_says c.args.query.now in
    let v = c.in-Some.visit in
    let n = node_says v.node.now in
    let found = c.loop-walk.found.items in
    let start = c.loop-walk.walk in
    let walk = c.visit.new.self in
    let turned = c.if-visit.walk in
    let entered = c.enter.new.self in
    let h = c.loop-walk.invariant in
    let total = part_count q * (node_count x + block_count x) + indices found in
    let block = copies (length (last_parts (levels_of walk))) n in
    let some : Passes (walk_due start) (came_to v walk ∷ walk_left v walk) = rw c.in-Some.is at c.in_ok-visit.ensures.due in
    let came : raise walk.steps (block + steps_of (walk_left v walk)) ≡ raise start.steps (steps_of (walk_due start)) = rw c.in-Some.is at c.in_ok-visit.ensures.counted in
    elim c.if-visit.branch [
      | then-visit+in_ok-path+in_ok-push w ↦
          let p = w.in_ok-path.field-0 in
          let levels = ap (λ (a : Walk). a.levels) w.walk-is ∙ w.in_ok-path.ensures.levels in
          let due = c.in_ok-enter.ensures.due ∙ left_same v turned walk levels in
          let pushed : c.if-visit.found.items ≡ found ++ p ∷ [] = ap (λ f. f.items) w.found-is ∙ w.in_ok-push.ensures.items in
          let more = indices_push found c.if-visit.found.items p pushed in
          let sum : total + length p.items ≡ part_count q * (node_count x + block_count x) + indices c.if-visit.found.items = omega (arith, more) in
          record {
            paths = subst (λ l. Finds x q l (walk_due entered)) (sym (ap (map (λ r. r.items)) pushed ∙ map-append (λ (r : Vec ℕ Global). r.items) found (p ∷ []) ∙ ap (λ (r : Path). map (λ s. s.items) found ++ r ∷ []) w.in_ok-path.ensures.path))
                (finds_one x q (map (λ r. r.items) found) (walk_due start) (walk_left v walk) (walk_due entered) (came_to v walk) some w.if-visit.true due h.paths);
            counted = ap (raise entered.steps) (ap steps_of due)
                ∙ raised_path start.steps walk.steps turned.steps entered.steps block (steps_of (walk_left v walk)) (steps_of (walk_due start)) (length p.items) total came (ap (λ (a : Walk). raise a.steps 0) w.walk-is ∙ w.in_ok-path.ensures.counted)
                (c.in_ok-enter.ensures.counted ∙ ap (λ ls. raise turned.steps (copies (length (last_parts (map level_says ls.items))) n)) levels) h.counted
                ∙ ap (raise 0) sum;
          }
      | else-visit w ↦
          let due = c.in_ok-enter.ensures.due ∙ ap (walk_left v) w.walk-is in
          let same = ap (λ f. f.items) w.found-is in
          let more = ap indices same in
          let sum : total + 0 ≡ part_count q * (node_count x + block_count x) + indices c.if-visit.found.items = omega (arith, more) in
          record {
            paths = subst (λ ps. Finds x q (map (λ r. r.items) ps) (walk_due entered)) (sym same) (finds_none x q (map (λ r. r.items) found) (walk_due start) (walk_left v walk) (walk_due entered) (came_to v walk) some w.if-visit.false due h.paths);
            counted = ap (raise entered.steps) (ap steps_of due)
                ∙ raised_path start.steps walk.steps turned.steps entered.steps block (steps_of (walk_left v walk)) (steps_of (walk_due start)) 0 total came (ap (λ (a : Walk). raise a.steps 0) w.walk-is)
                (c.in_ok-enter.ensures.counted ∙ ap (λ (a : Walk). raise turned.steps (copies (length (last_parts (levels_of a))) n)) w.walk-is) h.counted
                ∙ ap (raise 0) sum;
          }
    ]

pub returns-clause-selected : goal.returns-clause-selected
returns-clause-selected c =
    let none : Passes (walk_due c.loop-walk.walk) [] = rw c.in_default.is at c.in_ok-visit.ensures.due in
    paths_found (document_says c.args.document.now) (query_says c.args.query.now) (map (λ p. p.items) c.loop-walk.found.items) (walk_due c.loop-walk.walk) none c.loop-walk.invariant.paths

pub returns-clause-counted : goal.returns-clause-counted
returns-clause-counted c =
    let left = rw c.in_default.is at c.in_ok-visit.ensures.counted in
    let kept = c.loop-walk.invariant.counted in
    omega (arith, left, kept)
