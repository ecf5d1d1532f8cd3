-- How many steps a walk takes.
use Rattle.std.proofs.Common.{◌≡◌, ℕ, suc, ◌+◌, ◌*◌, Bool, List, [], ◌∷◌, ◌++◌, length, Option, Some, None, refl, ap, ◌∙◌, arith}
use Rattle.std.proofs.lemmas.List.{length-append, length-map}
use Rattle.std.proofs.lemmas.List.Concat.{length-flat_map}
use Rattle.std.proofs.lemmas.List.Sums.{sum_by-cons}
use Rattle.std.specs.List.{sum_by}
use Rattle.kdl_text.specs.Spans.{raise}
use Rattle.kdl_text.specs.Chars.{Text}
use Rattle.kdl_entry.specs.Data.{Entry}
use Rattle.kdl_grammar.specs.Data.{Node, node, Children, no_children, children, Nodes, none, first}
use Rattle.kdl_query.specs.Counts.{block_count, blocks_below, blocks_inside, count_below, count_inside, node_count, part_count, parts_in, selector_count}
use Rattle.kdl_query.specs.Data.{Query, Selector, start, then, top}
use Rattle.kdl_query.specs.Selects.{Path}
use Rattle.kdl_query.specs.Internal.Parts.{PartSays, all_parts, entered, entering, fresh, parts_to, query_parts, visited, with_marks}
use Rattle.kdl_query.specs.Internal.Visits.{Visited, all_visits, copies, next_parts, steps_at, steps_of, visits, visits_below, visits_inside}
use Rattle.kdl_query.specs.declared.part.Link.TheVariants.{After}
use Rattle.kdl_query.specs.declared.tree.Combinator.{Combinator}

-- a node changes only marks
visited_length : (n : Node) (m : Bool) (ps : List PartSays) → length (visited n m ps) ≡ length ps
visited_length n m [] = refl
visited_length n m (p ∷ ps) = ap suc (visited_length n p.marks.here ps)

pub next_length : (n : Node) (ps : List PartSays) → length (next_parts n ps) ≡ length ps
next_length n ps = visited_length n _ ps

inside_length : (n : Node) (ps : List PartSays) → length (entered (next_parts n ps)) ≡ length ps
inside_length n ps = length-map (next_parts n ps) (λ (p : PartSays). with_marks p (entering p.marks)) ∙ next_length n ps

-- the parts of a query
to_length : (o : Option Combinator) (s : Selector) → length (parts_to o s) ≡ parts_in s
to_length o top = refl
to_length o (start t) = refl
to_length o (then s c t) = let e = length-append (parts_to (Some c) s) (fresh After (Some t) o ∷ []) in let h = to_length (Some c) s in omega (arith, e, h)

all_length : (s : Selector) → length (all_parts s) ≡ selector_count s
all_length top = refl
all_length (start t) = refl
all_length (then s c t) = to_length None (then s c t)

sum_same : (q : Query) → sum_by (λ s. length (all_parts s)) q ≡ part_count q
sum_same [] = refl
sum_same (s ∷ q) =
    let a = sum_by-cons (λ t. length (all_parts t)) s q in
    let b = sum_by-cons selector_count s q in
    let e = all_length s in
    let h = sum_same q in
    omega (arith, a, b, e, h)

pub parts_counted : (q : Query) → length (query_parts q) ≡ part_count q
parts_counted q = length-flat_map all_parts q ∙ sum_same q

-- the steps at nodes that are visited
pub steps_append : (vs ws : List Visited) → steps_of (vs ++ ws) ≡ steps_of vs + steps_of ws
steps_append [] ws = omega arith
steps_append (v ∷ vs) ws = let e = steps_append vs ws in omega (arith, e)

mutual
  visits_steps : (q : Path) (i k : ℕ) (ps : List PartSays) (y : Nodes) → length ps ≡ k → k + steps_of (visits q i ps y) ≡ k * (node_count y + block_count y)
  visits_steps q i k ps none e = omega arith
  visits_steps q i k ps (first n y) e =
      let a = steps_append (visits_inside (q ++ i ∷ []) (entered (next_parts n ps)) n) (visits q (suc i) (next_parts n ps) y) in
      let b = inside_steps (q ++ i ∷ []) k (entered (next_parts n ps)) n (inside_length n ps ∙ e) in
      let c = visits_steps q (suc i) k (next_parts n ps) y (next_length n ps ∙ e) in
      let d : k * (suc (count_inside n + node_count y) + (blocks_inside n + block_count y)) ≡ k + (k * (count_inside n + blocks_inside n) + k * (node_count y + block_count y)) = omega arith in
      let f = ap (λ j. steps_at j n) e in
      omega (arith, a, b, c, d, f)

  inside_steps : (q : Path) (k : ℕ) (ps : List PartSays) (n : Node) → length ps ≡ k → copies k n + steps_of (visits_inside q ps n) ≡ k * (count_inside n + blocks_inside n)
  inside_steps q k ps (node t s es c) e = below_steps q k ps t s es c e

  below_steps : (q : Path) (k : ℕ) (ps : List PartSays) (t : Option Text) (s : Text) (es : List Entry) (c : Children) → length ps ≡ k → copies k (node t s es c) + steps_of (visits_below q ps c) ≡ k * (count_below c + blocks_below c)
  below_steps q k ps t s es no_children e = omega arith
  below_steps q k ps t s es (children y) e = visits_steps q 0 k ps y e

pub all_steps : (q : Query) (x : Nodes) → part_count q + steps_of (all_visits q x) ≡ part_count q * (node_count x + block_count x)
all_steps q x = visits_steps [] 0 (part_count q) (query_parts q) x (parts_counted q)

-- a count that is raised by steps, and by more
pub raised_by : (a b n m : ℕ) → raise b 0 ≡ raise a n → raise b m ≡ raise a (n + m)
raised_by a b n m e = omega (arith, e)

pub raised_more : (a b m n o : ℕ) → raise b m ≡ raise a n → raise b (m + o) ≡ raise a (n + o)
raised_more a b m n o e = omega (arith, e)

pub raised_path : (a b c d k m n o t : ℕ) → raise b (k + m) ≡ raise a n → raise c 0 ≡ raise b o → raise d 0 ≡ raise c k → raise a n ≡ raise 0 t → raise d m ≡ raise 0 (t + o)
raised_path a b c d k m n o t e f g h =
    let turn : o + (k + m) ≡ (k + m) + o = omega arith in
    raised_by c d k m g ∙ raised_by b c o (k + m) f ∙ ap (raise b) turn ∙ raised_more a b (k + m) n o e ∙ raised_more 0 a n t o h

-- each node is visited once
mutual
  visits_length : (q : Path) (i : ℕ) (ps : List PartSays) (y : Nodes) → length (visits q i ps y) ≡ node_count y
  visits_length q i ps none = refl
  visits_length q i ps (first n y) =
      let a = length-append (visits_inside (q ++ i ∷ []) (entered (next_parts n ps)) n) (visits q (suc i) (next_parts n ps) y) in
      let b = inside_visits (q ++ i ∷ []) (entered (next_parts n ps)) n in
      let c = visits_length q (suc i) (next_parts n ps) y in
      omega (arith, a, b, c)

  inside_visits : (q : Path) (ps : List PartSays) (n : Node) → length (visits_inside q ps n) ≡ count_inside n
  inside_visits q ps (node t s es k) = below_visits q ps k

  below_visits : (q : Path) (ps : List PartSays) (k : Children) → length (visits_below q ps k) ≡ count_below k
  below_visits q ps no_children = refl
  below_visits q ps (children y) = visits_length q 0 ps y

pub all_counted : (q : Query) (x : Nodes) → length (all_visits q x) ≡ node_count x
all_counted q x = visits_length [] 0 (query_parts q) x
