-- A walk visits each node of a document once, in order, and tells of each whether it is selected.
use Rattle.std.proofs.Common.{◌≡◌, ℕ, zero, suc, true, ◌+◌, ◌<◌, List, [], ◌∷◌, ◌++◌, map, Option, Some, None, ◌⊎◌, inl, inr, Decides, refl, ap, ◌∙◌, sym, subst, arith, slice_get, option_and_then}
use Rattle.std.specs.List.{AllByRecursion}
use Rattle.std.proofs.lemmas.List.{append_assoc, map-append}
use Rattle.kdl_text.specs.Chars.{Text}
use Rattle.kdl_entry.specs.Data.{Entry}
use Rattle.kdl_grammar.specs.Data.{Node, node, Children, no_children, children, Nodes, none, first}
use Rattle.kdl.specs.Said.{said_child_nodes, said_nodes}
use Rattle.kdl_query.specs.Selects.{IsBefore, Path, node_at, node_below}
use Rattle.kdl_query.specs.Internal.Parts.{PartSays, entered, has_block}
use Rattle.kdl_query.specs.Internal.Visits.{Visited, next_parts, visits, visits_below, visits_inside}
use Rattle.kdl_query.proofs.Seeing.{Sees, sees_after, sees_ends, sees_inside}

-- the nodes from place i on in the block at q
abbrev pub Under : Nodes → Path → ℕ → List Node → Type 0
Under x q i ns = (j : ℕ) → node_at (q ++ (i + j) ∷ []) x ≡ slice_get ns j

-- the path of a child
push_in : (p : Path) (j : ℕ) (o : Option Node) → ((m : Node) → node_below (p ++ j ∷ []) m ≡ option_and_then (λ n. slice_get (said_child_nodes n) j) (node_below p m))
    → option_and_then (node_below (p ++ j ∷ [])) o ≡ option_and_then (λ n. slice_get (said_child_nodes n) j) (option_and_then (node_below p) o)
push_in p j None f = refl
push_in p j (Some m) f = f m

below_push : (p : Path) (j : ℕ) (n : Node) → node_below (p ++ j ∷ []) n ≡ option_and_then (λ m. slice_get (said_child_nodes m) j) (node_below p n)
below_push [] j n = last (slice_get (said_child_nodes n) j)
  where
    last : (o : Option Node) → option_and_then (node_below []) o ≡ o
    last None = refl
    last (Some m) = refl
below_push (i ∷ p) j n = push_in p j (slice_get (said_child_nodes n) i) (λ m. below_push p j m)

at_push : (p : Path) (k j : ℕ) (x : Nodes) → node_at ((k ∷ p) ++ j ∷ []) x ≡ option_and_then (λ m. slice_get (said_child_nodes m) j) (node_at (k ∷ p) x)
at_push p k j x = push_in p j (slice_get (said_nodes x) k) (λ m. below_push p j m)

child_at : (q : Path) (i j : ℕ) (x : Nodes) (n : Node) → node_at (q ++ i ∷ []) x ≡ Some n → node_at ((q ++ i ∷ []) ++ j ∷ []) x ≡ slice_get (said_child_nodes n) j
child_at [] i j x n e = at_push [] i j x ∙ ap (λ o. option_and_then (λ m. slice_get (said_child_nodes m) j) o) e
child_at (k ∷ q) i j x n e = at_push (q ++ i ∷ []) k j x ∙ ap (λ o. option_and_then (λ m. slice_get (said_child_nodes m) j) o) e

under_first : (x : Nodes) (q : Path) (i : ℕ) (n : Node) (ns : List Node) → Under x q i (n ∷ ns) → node_at (q ++ i ∷ []) x ≡ Some n
under_first x q i n ns u = let e : i ≡ i + 0 = omega arith in ap (λ k. node_at (q ++ k ∷ []) x) e ∙ u 0

under_rest : (x : Nodes) (q : Path) (i : ℕ) (n : Node) (ns : List Node) → Under x q i (n ∷ ns) → Under x q (suc i) ns
under_rest x q i n ns u = λ j. let e : suc i + j ≡ i + suc j = omega arith in ap (λ k. node_at (q ++ k ∷ []) x) e ∙ u (suc j)

under_inside : (x : Nodes) (q : Path) (i : ℕ) (n : Node) → node_at (q ++ i ∷ []) x ≡ Some n → Under x (q ++ i ∷ []) 0 (said_child_nodes n)
under_inside x q i n e = λ j. let z : 0 + j ≡ j = omega arith in ap (λ k. node_at ((q ++ i ∷ []) ++ k ∷ []) x) z ∙ child_at q i j x n e

-- what is visited is a node of the document, and its flag tells whether its path is selected
pub record Tells (x : Nodes) (S : Path → Type 0) (v : Visited) : Type 0 where
  pub there : node_at v.path x ≡ Some v.said
  pub selected : Decides v.is_selected (S v.path)

abbrev AllTell : Nodes → (Path → Type 0) → List Visited → Type 0
AllTell x S vs = AllByRecursion (Tells x S) vs

pub each_append : {A : Type 0} (P : A → Type 0) (xs ys : List A) → AllByRecursion P xs → AllByRecursion P ys → AllByRecursion P (xs ++ ys)
each_append P [] ys h k = k
each_append P (x ∷ xs) ys h k = (h.0, each_append P xs ys h.1 k)

mutual
  tells_visits : (x : Nodes) (S : Path → Type 0) (q : Path) (i : ℕ) (ps : List PartSays) (y : Nodes) → Sees x S q i ps → Under x q i (said_nodes y) → AllTell x S (visits q i ps y)
  tells_visits x S q i ps none w u = tt
  tells_visits x S q i ps (first n y) w u =
      let e = under_first x q i n (said_nodes y) u in
      let w' = sees_after x S q i ps n w e in (
        record { there = e; selected = sees_ends x S q i ps n w e },
        each_append (Tells x S) (visits_inside (q ++ i ∷ []) (entered (next_parts n ps)) n) (visits q (suc i) (next_parts n ps) y)
            (tells_inside x S q i (next_parts n ps) n (sees_inside x S q i ps n w e) (under_inside x q i n e))
            (tells_visits x S q (suc i) (next_parts n ps) y w' (under_rest x q i n (said_nodes y) u)),
      )

  tells_inside : (x : Nodes) (S : Path → Type 0) (q : Path) (i : ℕ) (ps : List PartSays) (n : Node) → (has_block n ≡ true → Sees x S (q ++ i ∷ []) 0 (entered ps)) → Under x (q ++ i ∷ []) 0 (said_child_nodes n)
      → AllTell x S (visits_inside (q ++ i ∷ []) (entered ps) n)
  tells_inside x S q i ps (node t s es k) w u = tells_below x S (q ++ i ∷ []) (entered ps) t s es k w u

  tells_below : (x : Nodes) (S : Path → Type 0) (q : Path) (ps : List PartSays) (t : Option Text) (s : Text) (es : List Entry) (k : Children) → (has_block (node t s es k) ≡ true → Sees x S q 0 ps) → Under x q 0 (said_child_nodes (node t s es k))
      → AllTell x S (visits_below q ps k)
  tells_below x S q ps t s es no_children w u = tt
  tells_below x S q ps t s es (children y) w u = tells_visits x S q 0 ps y (w refl) u

pub all_tell : (x : Nodes) (S : Path → Type 0) (ps : List PartSays) → Sees x S [] 0 ps → AllTell x S (visits [] 0 ps x)
all_tell x S ps w = tells_visits x S [] 0 ps x w (λ j. let z : 0 + j ≡ j = omega arith in ap (λ k. node_at (k ∷ []) x) z ∙ last (slice_get (said_nodes x) j))
  where
    last : (o : Option Node) → option_and_then (node_below []) o ≡ o
    last None = refl
    last (Some m) = refl

-- an element, by recursion
abbrev pub In : {A : Type 0} → List A → A → Type 0
In [] a = ⊥
In (x ∷ xs) a = (x ≡ a) ⊎ In xs a

pub in_left : {A : Type 0} (xs ys : List A) (a : A) → In xs a → In (xs ++ ys) a
in_left [] ys a h = absurd h
in_left (x ∷ xs) ys a (inl h) = inl h
in_left (x ∷ xs) ys a (inr h) = inr (in_left xs ys a h)

pub in_right : {A : Type 0} (xs ys : List A) (a : A) → In ys a → In (xs ++ ys) a
in_right [] ys a h = h
in_right (x ∷ xs) ys a h = inr (in_right xs ys a h)

abbrev pub paths : List Visited → List Path
paths vs = map (λ v. v.path) vs

paths_append : (vs ws : List Visited) → paths (vs ++ ws) ≡ paths vs ++ paths ws
paths_append vs ws = map-append (λ v. v.path) vs ws

in_left_paths : (vs ws : List Visited) (p : Path) → In (paths vs) p → In (paths (vs ++ ws)) p
in_left_paths vs ws p h = let P : List Path → Type 0 = λ l. In l p in subst P (sym (paths_append vs ws)) (in_left (paths vs) (paths ws) p h)

in_right_paths : (vs ws : List Visited) (p : Path) → In (paths ws) p → In (paths (vs ++ ws)) p
in_right_paths vs ws p h = let P : List Path → Type 0 = λ l. In l p in subst P (sym (paths_append vs ws)) (in_right (paths vs) (paths ws) p h)

-- every node is visited
mutual
  visits_each : (q : Path) (i : ℕ) (ps : List PartSays) (y : Nodes) (j : ℕ) (r : Path) (m : Node) → node_at (j ∷ r) y ≡ Some m → In (paths (visits q i ps y)) (q ++ (i + j) ∷ r)
  visits_each q i ps none j r m e = absurd (cc)
  visits_each q i ps (first n y) zero [] m e = let z : i ≡ i + 0 = omega arith in inl (ap (λ k. q ++ k ∷ []) z)
  visits_each q i ps (first n y) zero (l ∷ r) m e =
      let z : i ≡ i + 0 = omega arith in
      let P : Path → Type 0 = λ p. In (paths (visits q i ps (first n y))) p in
      subst P (append_assoc q (i ∷ []) (l ∷ r) ∙ ap (λ k. q ++ k ∷ l ∷ r) z)
      (inr (in_left_paths (visits_inside (q ++ i ∷ []) (entered (next_parts n ps)) n) (visits q (suc i) (next_parts n ps) y) ((q ++ i ∷ []) ++ l ∷ r) (inside_each (q ++ i ∷ []) (entered (next_parts n ps)) n l r m e)))
  visits_each q i ps (first n y) (suc j) r m e =
      let z : suc i + j ≡ i + suc j = omega arith in
      let P : Path → Type 0 = λ p. In (paths (visits q i ps (first n y))) p in
      subst P (ap (λ k. q ++ k ∷ r) z)
      (inr (in_right_paths (visits_inside (q ++ i ∷ []) (entered (next_parts n ps)) n) (visits q (suc i) (next_parts n ps) y) (q ++ (suc i + j) ∷ r) (visits_each q (suc i) (next_parts n ps) y j r m e)))

  inside_each : (q : Path) (ps : List PartSays) (n : Node) (j : ℕ) (r : Path) (m : Node) → node_below (j ∷ r) n ≡ Some m → In (paths (visits_inside q ps n)) (q ++ j ∷ r)
  inside_each q ps (node t s es k) j r m e = below_each q ps t s es k j r m e

  below_each : (q : Path) (ps : List PartSays) (t : Option Text) (s : Text) (es : List Entry) (k : Children) (j : ℕ) (r : Path) (m : Node) → node_below (j ∷ r) (node t s es k) ≡ Some m
      → In (paths (visits_below q ps k)) (q ++ j ∷ r)
  below_each q ps t s es no_children j r m e = absurd (cc)
  below_each q ps t s es (children y) j r m e =
      let z : 0 + j ≡ j = omega arith in
      let P : Path → Type 0 = λ p. In (paths (visits q 0 ps y)) p in
      subst P (ap (λ k. q ++ k ∷ r) z) (visits_each q 0 ps y j r m e)

pub all_visited : (x : Nodes) (ps : List PartSays) (p : Path) (m : Node) → node_at p x ≡ Some m → In (paths (visits [] 0 ps x)) p
all_visited x ps [] m e = absurd (cc)
all_visited x ps (j ∷ r) m e = let z : 0 + j ≡ j = omega arith in let P : Path → Type 0 = λ p. In (paths (visits [] 0 ps x)) p in subst P (ap (λ k. k ∷ r) z) (visits_each [] 0 ps x j r m e)

-- what is visited from place i on in the block at q is there or below
abbrev Within : Path → ℕ → Path → Type 0
Within q i p = (j : ℕ) × (r : Path) × (p ≡ q ++ (i + j) ∷ r)

-- each path is before those after it
abbrev pub Ascends : List Path → Type 0
Ascends [] = Unit {0}
Ascends (p ∷ ps) = AllByRecursion (IsBefore p) ps × Ascends ps

before_below : (p : Path) (j : ℕ) (r : Path) → IsBefore p (p ++ j ∷ r)
before_below [] j r = tt
before_below (i ∷ p) j r = inr (refl, before_below p j r)

before_later : (q : Path) (i j : ℕ) (r s : Path) → i < j → IsBefore (q ++ i ∷ r) (q ++ j ∷ s)
before_later [] i j r s h = inl h
before_later (k ∷ q) i j r s h = inr (refl, before_later q i j r s h)

pub each_weaker : {A : Type 0} (P Q : A → Type 0) → ((a : A) → P a → Q a) → (xs : List A) → AllByRecursion P xs → AllByRecursion Q xs
each_weaker P Q f [] h = tt
each_weaker P Q f (x ∷ xs) h = (f x h.0, each_weaker P Q f xs h.1)

ascends_append : (ps qs : List Path) → Ascends ps → Ascends qs → AllByRecursion (λ p. AllByRecursion (IsBefore p) qs) ps → Ascends (ps ++ qs)
ascends_append [] qs a b h = b
ascends_append (p ∷ ps) qs a b h = (each_append (IsBefore p) ps qs a.0 h.0, ascends_append ps qs a.1 b h.1)

from_inside : (q : Path) (i : ℕ) (p : Path) → Within (q ++ i ∷ []) 0 p → Within q i p
from_inside q i p w = let z : i ≡ i + 0 = omega arith in (0, (0 + w.0) ∷ w.1, w.2 ∙ append_assoc q (i ∷ []) ((0 + w.0) ∷ w.1) ∙ ap (λ k. q ++ k ∷ (0 + w.0) ∷ w.1) z)

from_later : (q : Path) (i : ℕ) (p : Path) → Within q (suc i) p → Within q i p
from_later q i p w = let z : suc i + w.0 ≡ i + suc w.0 = omega arith in (suc w.0, w.1, w.2 ∙ ap (λ k. q ++ k ∷ w.1) z)

mutual
  within_visits : (q : Path) (i : ℕ) (ps : List PartSays) (y : Nodes) → AllByRecursion (Within q i) (paths (visits q i ps y))
  within_visits q i ps none = tt
  within_visits q i ps (first n y) =
      let z : i ≡ i + 0 = omega arith in
      let P : List Path → Type 0 = λ l. AllByRecursion (Within q i) l in (
        (0, [], ap (λ k. q ++ k ∷ []) z),
        subst P (sym (paths_append (visits_inside (q ++ i ∷ []) (entered (next_parts n ps)) n) (visits q (suc i) (next_parts n ps) y)))
            (each_append (Within q i) (paths (visits_inside (q ++ i ∷ []) (entered (next_parts n ps)) n)) (paths (visits q (suc i) (next_parts n ps) y))
            (each_weaker (Within (q ++ i ∷ []) 0) (Within q i) (from_inside q i) (paths (visits_inside (q ++ i ∷ []) (entered (next_parts n ps)) n)) (within_inside (q ++ i ∷ []) (entered (next_parts n ps)) n))
            (each_weaker (Within q (suc i)) (Within q i) (from_later q i) (paths (visits q (suc i) (next_parts n ps) y)) (within_visits q (suc i) (next_parts n ps) y))),
      )

  within_inside : (q : Path) (ps : List PartSays) (n : Node) → AllByRecursion (Within q 0) (paths (visits_inside q ps n))
  within_inside q ps (node t s es k) = within_below q ps k

  within_below : (q : Path) (ps : List PartSays) (k : Children) → AllByRecursion (Within q 0) (paths (visits_below q ps k))
  within_below q ps no_children = tt
  within_below q ps (children y) = within_visits q 0 ps y

-- the node is before those inside it and after it, and those inside it are before those after it
first_before : (q : Path) (i : ℕ) (p : Path) → Within (q ++ i ∷ []) 0 p → IsBefore (q ++ i ∷ []) p
first_before q i p w = let P : Path → Type 0 = λ t. IsBefore (q ++ i ∷ []) t in subst P (sym w.2) (before_below (q ++ i ∷ []) (0 + w.0) w.1)

later_before : (q : Path) (i : ℕ) (r p : Path) → Within q (suc i) p → IsBefore (q ++ i ∷ r) p
later_before q i r p w = let P : Path → Type 0 = λ t. IsBefore (q ++ i ∷ r) t in let lt : i < suc i + w.0 = omega arith in subst P (sym w.2) (before_later q i (suc i + w.0) r w.1 lt)

inside_before : (q : Path) (i : ℕ) (qs : List Path) → AllByRecursion (Within q (suc i)) qs → (p : Path) → Within (q ++ i ∷ []) 0 p → AllByRecursion (IsBefore p) qs
inside_before q i qs h p w =
    let e : p ≡ q ++ i ∷ (0 + w.0) ∷ w.1 = w.2 ∙ append_assoc q (i ∷ []) ((0 + w.0) ∷ w.1) in
    let P : Path → Type 0 = λ t. AllByRecursion (IsBefore t) qs in
    subst P (sym e) (each_weaker (Within q (suc i)) (IsBefore (q ++ i ∷ (0 + w.0) ∷ w.1)) (later_before q i ((0 + w.0) ∷ w.1)) qs h)

mutual
  visits_ascend : (q : Path) (i : ℕ) (ps : List PartSays) (y : Nodes) → Ascends (paths (visits q i ps y))
  visits_ascend q i ps none = tt
  visits_ascend q i ps (first n y) =
      let vs = visits_inside (q ++ i ∷ []) (entered (next_parts n ps)) n in
      let ws = visits q (suc i) (next_parts n ps) y in
      let in' = within_inside (q ++ i ∷ []) (entered (next_parts n ps)) n in
      let out = within_visits q (suc i) (next_parts n ps) y in
      let P : List Path → Type 0 = λ l. AllByRecursion (IsBefore (q ++ i ∷ [])) l × Ascends l in
      subst P (sym (paths_append vs ws)) (
        each_append (IsBefore (q ++ i ∷ [])) (paths vs) (paths ws)
            (each_weaker (Within (q ++ i ∷ []) 0) (IsBefore (q ++ i ∷ [])) (first_before q i) (paths vs) in')
            (each_weaker (Within q (suc i)) (IsBefore (q ++ i ∷ [])) (later_before q i []) (paths ws) out),
        ascends_append (paths vs) (paths ws) (inside_ascend (q ++ i ∷ []) (entered (next_parts n ps)) n) (visits_ascend q (suc i) (next_parts n ps) y)
            (each_weaker (Within (q ++ i ∷ []) 0) (λ p. AllByRecursion (IsBefore p) (paths ws)) (inside_before q i (paths ws) out) (paths vs) in'),
      )

  inside_ascend : (q : Path) (ps : List PartSays) (n : Node) → Ascends (paths (visits_inside q ps n))
  inside_ascend q ps (node t s es k) = below_ascend q ps k

  below_ascend : (q : Path) (ps : List PartSays) (k : Children) → Ascends (paths (visits_below q ps k))
  below_ascend q ps no_children = tt
  below_ascend q ps (children y) = visits_ascend q 0 ps y

pub all_ascend : (x : Nodes) (ps : List PartSays) → Ascends (paths (visits [] 0 ps x))
all_ascend x ps = visits_ascend [] 0 ps x
