use Rattle.std.proofs.Common.{◌≡◌, [], ◌∷◌, ◌++◌, ◌+◌, arith, if◌then◌else◌, length, ◌∙◌, ap, slice_get, sym, subst, List}
use Rattle.kdl.specs.Tree.{node_says}
use Rattle.kdl_text.specs.Spans.{raise}
use Rattle.kdl_query.specs.Internal.Visits.{LevelSays, Passes, Visited, copies, level_at, level_due, level_left, level_says, level_steps_left, steps_of}
use Rattle.kdl_query.specs.Selects.{Path}
use Rattle.kdl_query.specs.declared.walk.Visit.{Visit}
use Rattle.kdl_query.proofs.Counting.{next_length, raised_by}
use Rattle.kdl_query.proofs.Passing.{passes_on, passes_one, passes_to}
use Rattle.kdl_query.proofs.Walking.{level_came, level_none, none_inside}
use Rattle.kdl_query.proofs.walk.Level.advance.Goals as goal

pub returns-then-is_selected-clause-due : goal.returns-then-is_selected-clause-due
returns-then-is_selected-clause-due c = λ q.
    let l = level_says c.loop-node.self in
    let k = level_says c.visit-is_selected.new.self in
    let v : Visit = record { node = c.in-Some.node; is_selected = c.visit-is_selected.result } in
    passes_to (level_due q (level_says c.args.self.now)) (level_due q l) (level_at q v k ∷ level_left q v k) (c.loop-node.invariant.due q)
    (level_came q l k v (sym c.in-Some.ensures.node) c.visit-is_selected.ensures.level c.visit-is_selected.ensures.ends)

pub returns-then-is_selected-clause-counted : goal.returns-then-is_selected-clause-counted
returns-then-is_selected-clause-counted c = λ q.
    let l = level_says c.loop-node.self in
    let k = level_says c.visit-is_selected.new.self in
    let v : Visit = record { node = c.in-Some.node; is_selected = c.visit-is_selected.result } in
    let looks : length k.parts ≡ length l.parts = ap (λ (m : LevelSays). length m.parts) c.visit-is_selected.ensures.level ∙ next_length (node_says c.in-Some.node.now) l.parts in
    let came = level_came q l k v (sym c.in-Some.ensures.node) c.visit-is_selected.ensures.level c.visit-is_selected.ensures.ends in
    let sum : length k.parts + level_steps_left q v k ≡ steps_of (level_at q v k ∷ level_left q v k) = omega arith in
    raised_by c.loop-node.count c.visit-is_selected.new.count (length k.parts) (level_steps_left q v k) (c.visit-is_selected.ensures.counted ∙ ap (raise c.loop-node.count) (sym looks))
    ∙ ap (raise c.loop-node.count) sum ∙ ap (λ vs. raise c.loop-node.count (steps_of vs)) (sym came) ∙ c.loop-node.invariant.counted q

pub returns-then-is_selected-clause-node : goal.returns-then-is_selected-clause-node
returns-then-is_selected-clause-node c =
    let l = c.loop-node.self in
    let k = c.visit-is_selected.new.self in
    ap (λ b. slice_get b.now k.current) c.visit-is_selected.ensures.kept ∙ ap (slice_get l.nodes.now) (ap (λ (m : LevelSays). m.current) c.visit-is_selected.ensures.level) ∙ sym c.in-Some.ensures.value

pub loop-node-preserved : goal.loop-node-preserved
loop-node-preserved c =
    let l = level_says c.loop-node.self in
    let k = level_says c.visit-is_selected.new.self in
    let v : Visit = record { node = c.in-Some.node; is_selected = c.visit-is_selected.result } in
    let looks : length k.parts ≡ length l.parts = ap (λ (m : LevelSays). length m.parts) c.visit-is_selected.ensures.level ∙ next_length (node_says c.in-Some.node.now) l.parts in
    let came : (q : Path) → level_due q l ≡ level_at q v k ∷ level_due q k =
    λ q. level_came q l k v (sym c.in-Some.ensures.node) c.visit-is_selected.ensures.level c.visit-is_selected.ensures.ends
    ∙ ap (λ vs. level_at q v k ∷ (vs ++ level_due q k)) (none_inside (q ++ k.current ∷ []) _ (node_says c.in-Some.node.now) (sym c.if-has_block.ensures)) in
    let uncopied : copies (length k.parts) (node_says c.in-Some.node.now) ≡ 0 = ap (λ b. if b then length k.parts else 0) (sym c.if-has_block.ensures) in
    let sum : (q : Path) → length k.parts + steps_of (level_due q k) ≡ steps_of (level_at q v k ∷ level_due q k) = λ q. omega (arith, uncopied) in
    record {
      due = λ q. let P : List Visited → Type 0 = λ vs. Passes vs (level_due q k) in
          passes_on (level_due q (level_says c.args.self.now)) (level_due q l) (level_due q k) (c.loop-node.invariant.due q) (subst P (sym (came q)) (passes_one (level_at q v k) (level_due q k) c.if-is_selected.false));
      kept = c.visit-is_selected.ensures.kept ∙ c.loop-node.invariant.kept;
      counted = λ q. raised_by c.loop-node.count c.visit-is_selected.new.count (length k.parts) (steps_of (level_due q k)) (c.visit-is_selected.ensures.counted ∙ ap (raise c.loop-node.count) (sym looks))
          ∙ ap (raise c.loop-node.count) (sum q) ∙ ap (λ vs. raise c.loop-node.count (steps_of vs)) (sym (came q)) ∙ c.loop-node.invariant.counted q;
    }

pub returns-clause-due : goal.returns-clause-due
returns-clause-due c = λ q.
    let l = level_says c.loop-node.self in
    passes_to (level_due q (level_says c.args.self.now)) (level_due q l) [] (c.loop-node.invariant.due q) (level_none q l (sym c.in_default.ensures.node))

pub returns-clause-counted : goal.returns-clause-counted
returns-clause-counted c = λ q.
    let l = level_says c.loop-node.self in
    ap (λ vs. raise c.loop-node.count (steps_of vs)) (sym (level_none q l (sym c.in_default.ensures.node))) ∙ c.loop-node.invariant.counted q
