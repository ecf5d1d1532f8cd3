use Rattle.std.proofs.Common.{◌≡◌, ◌+◌, ◌-◌, ◌<◌, List, length, arith, [], ◌∷◌, ◌++◌, ◌∙◌, ap, map, sym, take, slice_set, subst, rules}
use Rattle.std.proofs.lemmas.List.{append-nil, length-append, length-take-le, map-append}
use Rattle.kdl.specs.Tree.{node_says}
use Rattle.kdl_text.specs.Spans.{raise}
use Rattle.kdl_query.specs.Internal.Visits.{HeldLevels, LevelSays, copies, due, inside_last, last_parts, level_at, level_due, level_left, level_says, level_steps_left, steps_of, path_of, walk_due}
use Rattle.kdl_query.specs.declared.walk.Level.{Level}
use Rattle.kdl_query.proofs.Counting.{steps_append, raised_more}
use Rattle.kdl_query.proofs.HeldWalk.{held_came, held_left, held_on}
use Rattle.kdl_query.proofs.Levels.{ends_in, front_kept, set_last}
use Rattle.kdl_query.proofs.Passing.{passes_before, passes_on, passes_to}
use Rattle.kdl_query.proofs.Turning.{keeps_on}
use Rattle.kdl_query.proofs.Walking.{due_last, parts_last, walk_came, walk_left_is}
use Rattle.kdl_query.proofs.walk.Walk.visit.Goals as goal

pub returns-in-Some-advance-clause-due : goal.returns-in-Some-advance-clause-due
returns-in-Some-advance-clause-due c =
    let v = c.loop-level.self.levels in
    let front : List Level = take (v.len - 1) v.items in
    let ls : List LevelSays = map level_says front in
    let l = level_says c.in-Some.level.now in
    let k = level_says c.advance.new.self in
    let visit = c.in-Some-advance.visit in
    let some : 0 < v.len = search rules in
    let before : v.items ≡ front ++ c.in-Some.level.now ∷ [] = ends_in v.len v.items c.in-Some.level.now v.ok.0 some c.in-Some.ensures.value in
    let now : walk_due c.loop-level.self ≡ level_due (path_of ls) l ++ due [] ls =
    ap (λ ks. due [] (map level_says ks)) before ∙ ap (due []) (map-append level_says front (c.in-Some.level.now ∷ [])) ∙ due_last [] ls l in
    let after : List LevelSays = map level_says (slice_set v.items (v.len - 1) c.advance.new.self) in
    let levels : after ≡ ls ++ k ∷ [] =
    ap (map level_says) (set_last v.len v.items c.advance.new.self v.ok.0 some) ∙ map-append level_says front (c.advance.new.self ∷ []) in
    let came = level_at (path_of ls) visit k ∷ level_left (path_of ls) visit k in
    passes_to (walk_due c.args.self.now) (came ++ due [] ls) _
    (passes_on (walk_due c.args.self.now) (level_due (path_of ls) l ++ due [] ls) (came ++ due [] ls)
    (passes_to (walk_due c.args.self.now) (walk_due c.loop-level.self) (level_due (path_of ls) l ++ due [] ls) c.loop-level.invariant.due now)
    (passes_before (level_due (path_of ls) l) came (due [] ls) (c.in-Some-advance.ensures.due (path_of ls))))
    (walk_came ls after k visit levels)

pub returns-in-Some-advance-clause-counted : goal.returns-in-Some-advance-clause-counted
returns-in-Some-advance-clause-counted c =
    let v = c.loop-level.self.levels in
    let front : List Level = take (v.len - 1) v.items in
    let ls : List LevelSays = map level_says front in
    let l = level_says c.in-Some.level.now in
    let k = level_says c.advance.new.self in
    let visit = c.in-Some-advance.visit in
    let some : 0 < v.len = search rules in
    let before : v.items ≡ front ++ c.in-Some.level.now ∷ [] = ends_in v.len v.items c.in-Some.level.now v.ok.0 some c.in-Some.ensures.value in
    let now : walk_due c.loop-level.self ≡ level_due (path_of ls) l ++ due [] ls =
    ap (λ ks. due [] (map level_says ks)) before ∙ ap (due []) (map-append level_says front (c.in-Some.level.now ∷ [])) ∙ due_last [] ls l in
    let after : List LevelSays = map level_says (slice_set v.items (v.len - 1) c.advance.new.self) in
    let levels : after ≡ ls ++ k ∷ [] =
    ap (map level_says) (set_last v.len v.items c.advance.new.self v.ok.0 some) ∙ map-append level_says front (c.advance.new.self ∷ []) in
    let n = node_says visit.node.now in
    let same = ap (λ i. copies i n) (parts_last ls after k levels) in
    let left = ap steps_of (walk_left_is ls after k visit levels) ∙ steps_append (level_left (path_of ls) visit k) (due [] ls) in
    let total : copies (length (last_parts after)) n + steps_of (inside_last after n ++ due [] after) ≡ level_steps_left (path_of ls) visit k + steps_of (due [] ls) = omega (arith, same, left) in
    ap (raise c.advance.new.count) total
    ∙ raised_more c.loop-level.self.steps c.advance.new.count (level_steps_left (path_of ls) visit k) (steps_of (level_due (path_of ls) l)) (steps_of (due [] ls)) (c.in-Some-advance.ensures.counted (path_of ls))
    ∙ ap (raise c.loop-level.self.steps) (sym (steps_append (level_due (path_of ls) l) (due [] ls))) ∙ ap (λ vs. raise c.loop-level.self.steps (steps_of vs)) (sym now) ∙ c.loop-level.invariant.counted

pub returns-in-Some-advance-clause-over : goal.returns-in-Some-advance-clause-over
returns-in-Some-advance-clause-over c =
    let v = c.loop-level.self.levels in
    let front : List Level = take (v.len - 1) v.items in
    let some : 0 < v.len = search rules in
    let before : v.items ≡ front ++ c.in-Some.level.now ∷ [] = ends_in v.len v.items c.in-Some.level.now v.ok.0 some c.in-Some.ensures.value in
    λ d h. held_on d front c.in-Some.level.now c.advance.new.self _ c.in-Some-advance.ensures.kept (set_last v.len v.items c.advance.new.self v.ok.0 some) (subst (HeldLevels d []) before (c.loop-level.invariant.over d h))

pub returns-in-Some-advance-clause-held : goal.returns-in-Some-advance-clause-held
returns-in-Some-advance-clause-held c =
    let v = c.loop-level.self.levels in
    let front : List Level = take (v.len - 1) v.items in
    let some : 0 < v.len = search rules in
    λ d h. held_came d front c.advance.new.self _ c.in-Some-advance.visit.node.now (set_last v.len v.items c.advance.new.self v.ok.0 some) (returns-in-Some-advance-clause-over c d h) c.in-Some-advance.ensures.node

pub returns-in-Some-advance-clause-kept : goal.returns-in-Some-advance-clause-kept
returns-in-Some-advance-clause-kept c =
    let v = c.loop-level.self.levels in
    let front : List Level = take (v.len - 1) v.items in
    let some : 0 < v.len = search rules in
    let before : v.items ≡ front ++ c.in-Some.level.now ∷ [] = ends_in v.len v.items c.in-Some.level.now v.ok.0 some c.in-Some.ensures.value in
    λ p h. keeps_on p c.loop-level.self _ front (c.in-Some.level.now ∷ []) (c.advance.new.self ∷ []) before (set_last v.len v.items c.advance.new.self v.ok.0 some)
    (omega (arith, c.min-self.ensures)) (let short = length-take-le (v.len - 1) v.items (omega (arith, v.ok.0)) in omega (arith, c.min-self.ensures, c.len.ensures, short)) (c.loop-level.invariant.kept p h)

pub returns-in-Some-advance-clause-unkept : goal.returns-in-Some-advance-clause-unkept
returns-in-Some-advance-clause-unkept c =
    let v = c.loop-level.self.levels in
    let front : List Level = take (v.len - 1) v.items in
    let some : 0 < v.len = search rules in
    let short = length-take-le (v.len - 1) v.items (omega (arith, v.ok.0)) in
    let long = ap length (set_last v.len v.items c.advance.new.self v.ok.0 some) ∙ length-append front (c.advance.new.self ∷ []) in
    λ _. omega (arith, c.min-self.ensures, c.len.ensures, v.ok.0, some, short, long, c.loop-level.invariant.unkept)

pub returns-clause-kept : goal.returns-clause-kept
returns-clause-kept c = c.loop-level.invariant.kept

pub loop-level-preserved : goal.loop-level-preserved
loop-level-preserved c =
    let v = c.loop-level.self.levels in
    let front : List Level = take (v.len - 1) v.items in
    let ls : List LevelSays = map level_says front in
    let l = level_says c.in-Some.level.now in
    let some : 0 < v.len = search rules in
    let before : v.items ≡ front ++ c.in-Some.level.now ∷ [] = ends_in v.len v.items c.in-Some.level.now v.ok.0 some c.in-Some.ensures.value in
    let now : walk_due c.loop-level.self ≡ level_due (path_of ls) l ++ due [] ls =
    ap (λ ks. due [] (map level_says ks)) before ∙ ap (due []) (map-append level_says front (c.in-Some.level.now ∷ [])) ∙ due_last [] ls l in
    let left : c.leave.new.self.levels.items ≡ front = c.in_ok-leave.ensures.levels ∙ front_kept front _ _ (set_last v.len v.items _ v.ok.0 some) in
    let rest : due [] ls ≡ walk_due c.leave.new.self = ap (λ ks. due [] (map level_says ks)) (sym left) in
    record {
      due = passes_to (walk_due c.args.self.now) (due [] ls) (walk_due c.leave.new.self)
          (passes_on (walk_due c.args.self.now) (level_due (path_of ls) l ++ due [] ls) (due [] ls)
          (passes_to (walk_due c.args.self.now) (walk_due c.loop-level.self) (level_due (path_of ls) l ++ due [] ls) c.loop-level.invariant.due now)
          (passes_before (level_due (path_of ls) l) [] (due [] ls) (c.in_default-advance.ensures.due (path_of ls)))) rest;
      kept = λ p h. keeps_on p c.loop-level.self c.leave.new.self front (c.in-Some.level.now ∷ []) [] before (left ∙ sym (append-nil front)) (omega (arith, c.in_ok-leave.ensures.kept)) (omega (arith, c.in_ok-leave.ensures.kept, ap length left)) (c.loop-level.invariant.kept p h);
      unkept = let long = ap length before in let one = length-append front (c.in-Some.level.now ∷ []) in omega (arith, c.in_ok-leave.ensures.kept, ap length left, long, one, c.loop-level.invariant.unkept);
      over = λ d h. held_left d front c.in-Some.level.now v.items _ before left (c.loop-level.invariant.over d h);
      counted = ap (λ i. raise i (steps_of (walk_due c.leave.new.self))) c.in_ok-leave.ensures.counted ∙ ap (λ vs. raise c.advance.new.count (steps_of vs)) (sym rest) ∙ ap (raise c.advance.new.count) (steps_append [] (due [] ls))
          ∙ raised_more c.loop-level.self.steps c.advance.new.count 0 (steps_of (level_due (path_of ls) l)) (steps_of (due [] ls)) (c.in_default-advance.ensures.counted (path_of ls))
          ∙ ap (raise c.loop-level.self.steps) (sym (steps_append (level_due (path_of ls) l) (due [] ls))) ∙ ap (λ vs. raise c.loop-level.self.steps (steps_of vs)) (sym now) ∙ c.loop-level.invariant.counted;
    }
