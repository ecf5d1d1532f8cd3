-- The steps of a PATH.
use Rattle.std.proofs.Common.{◌≡◌, ◌∙◌, ◌≤◌, ℕ, zero, suc, Bool, true, false, List, [], ◌∷◌, ◌++◌, Some, ap, append_assoc, arith, length, map, option_map, refl, slice_get, string_bytes, take}
use Rattle.std.proofs.lemmas.Option.{slice_get-map}
use Rattle.std.proofs.lemmas.Str.{IsUtf8-string_bytes}
use Rattle.std.specs.List.{filter}
use Rattle.std.specs.Prelude.{cond}
use Rattle.std.specs.Str.{IsUtf8, chars}
use Rattle.kdl.proofs.Finding.SaidLookups.{name_said, same_chars}
use Rattle.kdl.specs.Said.{is_called}
use Rattle.kdl.specs.Words.{NodeData, is_node_named, node_says, said_child_nodes}
use Rattle.kdl.specs.declared.node.KdlNode.{KdlNode, out-KdlNode}
use Rattle.kdl_parts.specs.EntryLists.{same_text}
use Rattle.kdl_query.specs.Selects.{Path}
use Rattle.cli_shown.specs.Names.{named_before, path_bytes, separator, step_bytes}

-- a name in memory and in the data
named_as_called : (s : List ℕ) → IsUtf8 s → (n : KdlNode) → is_node_named s n ≡ is_called (chars s) (node_says n)
named_as_called s u n = (same_chars s u).same (string_bytes (out-KdlNode n).name.value) (IsUtf8-string_bytes (out-KdlNode n).name.value) ∙ ap (λ t. same_text t (chars s)) (name_said n)

filter_count : {A B : Type 0} (f : A → B) (p : A → Bool) (q : B → Bool) → ((x : A) → p x ≡ q (f x)) → (xs : List A) → length (filter p xs) ≡ length (filter q (map f xs))
filter_count f p q h [] = refl
filter_count {A = A} f p q h (x ∷ xs) = go (p x) (q (f x)) (h x) (filter_count f p q h xs)
  where
    go : (b c : Bool) → b ≡ c → length (filter p xs) ≡ length (filter q (map f xs)) → length (cond b (x ∷ filter p xs) (filter p xs)) ≡ length (cond c (f x ∷ filter q (map f xs)) (filter q (map f xs)))
    go true true e i = ap suc i
    go false false e i = i
    go true false e i = cc
    go false true e i = cc

pub map_take : {A B : Type 0} (f : A → B) (i : ℕ) (xs : List A) → map f (take i xs) ≡ take i (map f xs)
map_take f zero xs = refl
map_take f (suc i) [] = refl
map_take f (suc i) (x ∷ xs) = ap (λ l. f x ∷ l) (map_take f i xs)

-- the nodes of a name before a place
pub counted : (s : List ℕ) → IsUtf8 s → (i : ℕ) (ns : List KdlNode) → length (filter (is_node_named s) (take i ns)) ≡ named_before i (chars s) (map node_says ns)
counted s u i ns = filter_count node_says (is_node_named s) (is_called (chars s)) (named_as_called s u) (take i ns) ∙ ap (λ (l : List NodeData). length (filter (is_called (chars s)) l)) (map_take node_says i ns)

pub filter_short : {A : Type 0} (p : A → Bool) (xs : List A) → length (filter p xs) ≤ length xs
filter_short p [] = omega arith
filter_short p (x ∷ xs) = go (p x) (filter_short p xs)
  where
    go : (b : Bool) → length (filter p xs) ≤ length xs → length (cond b (x ∷ filter p xs) (filter p xs)) ≤ suc (length xs)
    go true h = omega (arith, h)
    go false h = omega (arith, h)

pub take_short : {A : Type 0} (i : ℕ) (xs : List A) → length (take i xs) ≤ i
take_short zero xs = omega arith
take_short (suc i) [] = omega arith
take_short (suc i) (x ∷ xs) = let h = take_short i xs in omega (arith, h)

-- one step, and the rest of the path in the block of its node
pub stepped : (i : ℕ) (p : Path) (ns kids : List KdlNode) (n : KdlNode) (old step sep : List ℕ) → slice_get ns i ≡ Some n → map node_says kids ≡ said_child_nodes (node_says n)
    → step ≡ old ++ step_bytes i (map node_says ns) (node_says n) → sep ≡ step ++ separator p
    → sep ++ path_bytes p (map node_says kids) ≡ old ++ path_bytes (i ∷ p) (map node_says ns)
stepped i p ns kids n old step sep there inside a b =
    let g : slice_get (map node_says ns) i ≡ Some (node_says n) = slice_get-map node_says ns i ∙ ap (option_map node_says) there in
    let here = step_bytes i (map node_says ns) (node_says n) in
    let rest = path_bytes p (map node_says kids) in
    rw g (ap (λ (t : List ℕ). t ++ rest) (b ∙ ap (λ (t : List ℕ). t ++ separator p) a ∙ append_assoc old here (separator p))
    ∙ append_assoc old (here ++ separator p) rest
    ∙ ap (λ (xs : List NodeData). old ++ (here ++ separator p ++ path_bytes p xs)) inside)
