-- The blocks that a path goes through, and its steps.
use Rattle.std.proofs.Common.{◌≡◌, ◌∙◌, ◌<◌, ◌+◌, ℕ, zero, suc, Bool, true, false, List, [], ◌∷◌, ◌++◌, Option, Some, None, inl, inr, ap, append_assoc, arith, bytes_eq, drop, get_or, length, map, option_map, refl, slice_get, string_bytes, subst, sym, take}
use Rattle.std.proofs.lemmas.Option.{get_or_from_slice_get, slice_get-map}
use Rattle.std.proofs.Math.Seq.{take-suc}
use Rattle.std.proofs.lemmas.Slice.Eq.{bytes_eq-Decides}
use Rattle.std.proofs.lemmas.Str.{IsUtf8-string_bytes}
use Rattle.std.proofs.lemmas.Bool.{cases_lt}
use Rattle.std.specs.List.{filter}
use Rattle.std.specs.Option.{option_map_or, unwrap_or}
use Rattle.std.specs.Prelude.{cond}
use Rattle.std.specs.Str.{IsUtf8, chars}
use Rattle.kdl.proofs.Finding.SaidLookups.{name_said}
use Rattle.kdl.specs.Words.{NodeData, is_node_named, node_says, said_child_nodes, said_name}
use Rattle.kdl.specs.declared.node.KdlNode.{KdlNode, out-KdlNode}
use Rattle.kdl_parts.proofs.EntryLookups.{same_bytes}
use Rattle.kdl_parts.specs.EntryLists.{same_text}
use Rattle.kdl_query.specs.Selects.{Path}
use Rattle.cli_shown.specs.Names.{named_before, index_bytes, name_bytes, step_bytes}
use Rattle.cli_shown.specs.Internal.Trail.{AreFirst, AreRanks, AreRanksAlong, IsAt, inside_at, step_texts}
use Rattle.cli_shown.proofs.Steps.{counted}

-- the blocks that all paths with the same first steps go through
pub turned : (kept p q : Path) (rs : List (List ℕ)) (xs : List NodeData) → AreRanksAlong rs (kept ++ p) xs → AreRanksAlong (take (suc (length kept)) rs) (kept ++ q) xs
turned kept p q [] xs h = tt
turned [] [] [] (r ∷ rs) xs h = (h.0, refl)
turned [] [] (j ∷ q) (r ∷ rs) xs h = (h.0, tt)
turned [] (i ∷ p) [] (r ∷ rs) xs h = (h.0, refl)
turned [] (i ∷ p) (j ∷ q) (r ∷ rs) xs h = (h.0, tt)
turned (k ∷ kept) p q (r ∷ rs) xs h = (h.0, turned kept p q rs (inside_at k xs) h.1)

-- ---- the ranks of the nodes of a block

counted_more : {A : Type 0} (p : A → Bool) (xs : List A) (k : ℕ) (x : A) → slice_get xs k ≡ Some x → length (filter p (take (suc k) xs)) ≡ length (filter p (take k xs)) + cond (p x) 1 0
counted_more p [] k x e = absurd (cc (e))
counted_more {A = A} p (y ∷ ys) zero x e = let same : y ≡ x = cc (e) in let sum : cond (p x) 1 0 ≡ 0 + cond (p x) 1 0 = omega arith in subst (λ (z : A). length (filter p (z ∷ [])) ≡ cond (p x) 1 0) (sym same) (go (p x)) ∙ sum
  where
    go : (b : Bool) → length (cond b (x ∷ []) []) ≡ cond b 1 0
    go true = refl
    go false = refl
counted_more {A = A} p (y ∷ ys) (suc k) x e = go (p y) (counted_more p ys k x e)
  where
    go : (b : Bool) → length (filter p (take (suc k) ys)) ≡ length (filter p (take k ys)) + cond (p x) 1 0
        → length (cond b (y ∷ filter p (take (suc k) ys)) (filter p (take (suc k) ys))) ≡ length (cond b (y ∷ filter p (take k ys)) (filter p (take k ys))) + cond (p x) 1 0
    go true h = omega (arith, h)
    go false h = h

-- the count of a name after one node more, of the name b
pub counts_more : (b q : List ℕ) (ns : List KdlNode) (k rank : ℕ) (n : KdlNode) (old new : Option ℕ) → slice_get ns k ≡ Some n → ((s : List ℕ) → same_text b s ≡ is_node_named s n)
    → unwrap_or old 0 ≡ length (filter (is_node_named q) (take k ns)) → rank ≡ length (filter (is_node_named b) (take k ns)) → new ≡ cond (bytes_eq b q) (Some (rank + 1)) old
    → unwrap_or new 0 ≡ length (filter (is_node_named q) (take (k + 1) ns))
counts_more b q ns k rank n old new there named was is e =
    let next : k + 1 ≡ suc k = omega arith in
    go (bytes_eq b q) (bytes_eq-Decides b q).0 (sym (named q)) e ∙ sym (ap (λ (m : ℕ). length (filter (is_node_named q) (take m ns))) next ∙ counted_more (is_node_named q) ns k n there)
  where
    go : (c : Bool) → (c ≡ true → b ≡ q) → is_node_named q n ≡ c → new ≡ cond c (Some (rank + 1)) old → unwrap_or new 0 ≡ length (filter (is_node_named q) (take k ns)) + cond (is_node_named q n) 1 0
    go true same t f =
        let counts : rank ≡ length (filter (is_node_named q) (take k ns)) = is ∙ ap (λ (s : List ℕ). length (filter (is_node_named s) (take k ns))) (same refl) in
        ap (λ (o : Option ℕ). unwrap_or o 0) f ∙ ap (λ (m : ℕ). m + 1) counts ∙ sym (ap (λ (d : Bool). length (filter (is_node_named q) (take k ns)) + cond d 1 0) t)
    go false same t f = let none : length (filter (is_node_named q) (take k ns)) ≡ length (filter (is_node_named q) (take k ns)) + 0 = omega arith in ap (λ (o : Option ℕ). unwrap_or o 0) f ∙ was ∙ none ∙ sym (ap (λ (d : Bool). length (filter (is_node_named q) (take k ns)) + cond d 1 0) t)

get_push : (rs : List ℕ) (r j : ℕ) → j < length rs → slice_get (rs ++ r ∷ []) j ≡ slice_get rs j
get_push [] r j h = absurd (omega (arith, h))
get_push (x ∷ rs) r zero h = refl
get_push (x ∷ rs) r (suc j) h = get_push rs r j (omega (arith, h))

get_last : (rs : List ℕ) (r j : ℕ) → j ≡ length rs → slice_get (rs ++ r ∷ []) j ≡ Some r
get_last [] r zero h = refl
get_last [] r (suc j) h = absurd (omega (arith, h))
get_last (x ∷ rs) r zero h = absurd (omega (arith, h))
get_last (x ∷ rs) r (suc j) h = get_last rs r j (omega (arith, h))

-- the ranks after one node more
pub ranks_more : (rs : List ℕ) (ns : List KdlNode) (k rank : ℕ) (n : KdlNode) (new : List ℕ) → new ≡ rs ++ rank ∷ [] → length rs ≡ k → slice_get ns k ≡ Some n → rank ≡ length (filter (is_node_named (string_bytes (out-KdlNode n).name.value)) (take k ns))
    → ((j : ℕ) (m : KdlNode) → j < k → slice_get ns j ≡ Some m → slice_get rs j ≡ Some (length (filter (is_node_named (string_bytes (out-KdlNode m).name.value)) (take j ns))))
    → (j : ℕ) (m : KdlNode) → j < k + 1 → slice_get ns j ≡ Some m → slice_get new j ≡ Some (length (filter (is_node_named (string_bytes (out-KdlNode m).name.value)) (take j ns)))
ranks_more rs ns k rank n new pushed long there is h j m below e = ap (λ l. slice_get l j) pushed ∙ elim (cases_lt j k) [
  | inl less ↦ get_push rs rank j (omega (arith, less, long)) ∙ h j m less e
  | inr more ↦
      let same : j ≡ k = omega (arith, more, below) in
      let node : n ≡ m = let both : Some n ≡ Some m = sym there ∙ ap (λ i. slice_get ns i) (sym same) ∙ e in cc (both) in
      get_last rs rank j (omega (arith, same, long)) ∙ ap Some (is ∙ ap (λ (x : KdlNode). length (filter (is_node_named (string_bytes (out-KdlNode x).name.value)) (take k ns))) node
      ∙ ap (λ i. length (filter (is_node_named (string_bytes (out-KdlNode m).name.value)) (take i ns))) (sym same))
]

-- the name of a node in memory
pub name_bytes_are : (n : KdlNode) (b : List ℕ) → IsUtf8 b → chars b ≡ said_name (node_says n) → b ≡ string_bytes (out-KdlNode n).name.value
name_bytes_are n b u e = same_bytes b (string_bytes (out-KdlNode n).name.value) u (IsUtf8-string_bytes (out-KdlNode n).name.value) (e ∙ sym (name_said n))

-- the numbers of the nodes in memory are ranks
pub are_ranks : (rs : List ℕ) (ns : List KdlNode) → ((j : ℕ) (n : KdlNode) → slice_get ns j ≡ Some n → slice_get rs j ≡ Some (length (filter (is_node_named (string_bytes (out-KdlNode n).name.value)) (take j ns)))) → AreRanks rs (map node_says ns)
are_ranks rs ns h j m e = go (slice_get ns j) refl (sym (slice_get-map node_says ns j) ∙ e)
  where
    go : (o : Option KdlNode) → slice_get ns j ≡ o → option_map node_says o ≡ Some m → slice_get rs j ≡ Some (named_before j (said_name m) (map node_says ns))
    go None f g = absurd (cc (g))
    go (Some n) f g =
        let is : node_says n ≡ m = cc (g) in
        let value = string_bytes (out-KdlNode n).name.value in
        h j n f ∙ ap Some (counted value (IsUtf8-string_bytes (out-KdlNode n).name.value) j ns ∙ ap (λ (t : List ℕ). named_before j t (map node_says ns)) (name_said n ∙ ap said_name is))

-- ---- the blocks on the way along a path

drop_is : (rs : List (List ℕ)) (d : ℕ) → d < length rs → drop d rs ≡ get_or rs d [] ∷ drop (suc d) rs
drop_is [] d h = absurd (omega (arith, h))
drop_is (r ∷ rs) zero h = refl
drop_is (r ∷ rs) (suc d) h = drop_is rs d (omega (arith, h))

known : (rs : List (List ℕ)) (d i : ℕ) (p whole : Path) (xs top : List NodeData) → IsAt rs d (i ∷ p) xs whole top → d < length rs → AreRanksAlong (get_or rs d [] ∷ drop (suc d) rs) (i ∷ p) xs
known rs d i p whole xs top h l = subst (λ (s : List (List ℕ)). AreRanksAlong s (i ∷ p) xs) (drop_is rs d l) h.1

pub at_next : (rs : List (List ℕ)) (d i : ℕ) (p whole : Path) (xs top : List NodeData) → IsAt rs d (i ∷ p) xs whole top → d < length rs → IsAt rs (d + 1) p (inside_at i xs) whole top
at_next rs d i p whole xs top h l =
    let next : d + 1 ≡ suc d = omega arith in
    let r = get_or rs d [] in
    let here = known rs d i p whole xs top h l in
    let longer : (below : List (List ℕ)) → take d rs ++ (r ∷ below) ≡ take (suc d) rs ++ below = λ below. sym (ap (λ s. s ++ below) (take-suc rs d [] l) ∙ append_assoc (take d rs) (r ∷ []) below) in
    subst (λ (n : ℕ). IsAt rs n p (inside_at i xs) whole top) (sym next)
    (omega (arith, l), here.1, λ below k. subst (λ (s : List (List ℕ)). AreRanksAlong s whole top) (longer below) (h.2 (r ∷ below) (here.0, k)))

-- the rank that is known of a node
rank_is : (rs : List (List ℕ)) (d i : ℕ) (p whole : Path) (xs top : List NodeData) (n : NodeData) → IsAt rs d (i ∷ p) xs whole top → d < length rs → slice_get xs i ≡ Some n → get_or (get_or rs d []) i 0 ≡ named_before i (said_name n) xs
rank_is rs d i p whole xs top n h l g = get_or_from_slice_get (get_or rs d []) i (named_before i (said_name n) xs) 0 ((known rs d i p whole xs top h l).0 i n g)

inside_is : (i : ℕ) (xs : List NodeData) (n : NodeData) → slice_get xs i ≡ Some n → inside_at i xs ≡ said_child_nodes n
inside_is i xs n g = ap (λ o. option_map_or said_child_nodes o []) g

-- one step, and the rest of the path in the block of its node
pub moved : (rs : List (List ℕ)) (d i : ℕ) (p whole : Path) (ns kids : List KdlNode) (top : List NodeData) (n : KdlNode) → IsAt rs d (i ∷ p) (map node_says ns) whole top → d < length rs
    → slice_get ns i ≡ Some n → map node_says kids ≡ said_child_nodes (node_says n)
    → (name_bytes (said_name (node_says n)) ++ index_bytes (get_or (get_or rs d []) i 0) ≡ step_bytes i (map node_says ns) (node_says n))
    × (step_texts (i ∷ p) (map node_says ns) ≡ step_bytes i (map node_says ns) (node_says n) ∷ step_texts p (map node_says kids)) × IsAt rs (d + 1) p (map node_says kids) whole top
moved rs d i p whole ns kids top n at l there inside =
    let xs = map node_says ns in
    let m = node_says n in
    let g : slice_get xs i ≡ Some m = slice_get-map node_says ns i ∙ ap (option_map node_says) there in (
      ap (λ (k : ℕ). name_bytes (said_name m) ++ index_bytes k) (rank_is rs d i p whole xs top m at l g),
      ap (λ o. option_map_or (λ y. step_bytes i xs y ∷ step_texts p (said_child_nodes y)) o []) g ∙ ap (λ (ys : List NodeData). step_bytes i xs m ∷ step_texts p ys) (sym inside),
      subst (λ (ys : List NodeData). IsAt rs (d + 1) p ys whole top) (inside_is i xs m g ∙ sym inside) (at_next rs d i p whole xs top at l),
    )

-- ---- the first steps of a path

-- all paths with the same first steps have their texts
pub turned_steps : (kept p q : Path) (ss : List (List ℕ)) (xs : List NodeData) → AreFirst ss (step_texts (kept ++ p) xs) → AreFirst (take (length kept) ss) (step_texts (kept ++ q) xs)
turned_steps [] p q ss xs h = refl
turned_steps (k ∷ kept) p q [] xs h = refl
turned_steps (k ∷ kept) p q (s ∷ ss) xs h = go (slice_get xs k) (λ n. turned_steps kept p q ss (said_child_nodes n)) h
  where
    go : (o : Option NodeData) → ((n : NodeData) → AreFirst ss (step_texts (kept ++ p) (said_child_nodes n)) → AreFirst (take (length kept) ss) (step_texts (kept ++ q) (said_child_nodes n)))
        → AreFirst (s ∷ ss) (option_map_or (λ n. step_bytes k xs n ∷ step_texts (kept ++ p) (said_child_nodes n)) o [])
        → AreFirst (s ∷ take (length kept) ss) (option_map_or (λ n. step_bytes k xs n ∷ step_texts (kept ++ q) (said_child_nodes n)) o [])
    go None further f = absurd (cc (f))
    go (Some n) further f =
        let first : s ≡ step_bytes k xs n = cc (f) in
        let others : AreFirst ss (step_texts (kept ++ p) (said_child_nodes n)) = cc (f) in
        let more = further n others in
        cc (first, more)

pub first_more : (ss all : List (List ℕ)) (s : List ℕ) → slice_get all (length ss) ≡ Some s → AreFirst ss all → AreFirst (ss ++ s ∷ []) all
first_more ss [] s e h = absurd (cc (e))
first_more [] (a ∷ all) s e h = cc (e)
first_more (x ∷ ss) (a ∷ all) s e h =
    let first : x ≡ a = cc (h) in
    let others : AreFirst ss all = cc (h) in
    let more : AreFirst (ss ++ s ∷ []) all = first_more ss all s e others in
    cc (first, more)

pub first_read : (ss all r : List (List ℕ)) (d : ℕ) (s : List ℕ) → drop d all ≡ s ∷ r → AreFirst ss all → d < length ss → get_or ss d [] ≡ s
first_read [] all r d s e h l = absurd (omega (arith, l))
first_read (x ∷ ss) [] r d s e h l = absurd (cc (h))
first_read (x ∷ ss) (a ∷ all) r zero s e h l = cc (e, h)
first_read (x ∷ ss) (a ∷ all) r (suc d) s e h l = let others : AreFirst ss all = cc (h) in first_read ss all r d s e others (omega (arith, l))

-- the next text, and those after it
pub next_text : (all r : List (List ℕ)) (d : ℕ) (s : List ℕ) → drop d all ≡ s ∷ r → (slice_get all d ≡ Some s) × (drop (suc d) all ≡ r)
next_text [] r zero s e = absurd (cc (e))
next_text [] r (suc d) s e = absurd (cc (e))
next_text (a ∷ all) r zero s e = let first : a ≡ s = cc (e) in let others : all ≡ r = cc (e) in (ap Some first, others)
next_text (a ∷ all) r (suc d) s e = next_text all r d s e
