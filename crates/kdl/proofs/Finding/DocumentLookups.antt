-- Nodes found by their name.
use Rattle.kdl.proofs.Common.{◌≡◌, ℕ, suc, ◌≤◌, List, [], ◌∷◌, length, Bool, Option, None, Some, option_and_then, option_map, refl, ap, ◌∙◌, sym, arith, position, slice_get, string_bytes, length-filter, none-some, IsUtf8-string_bytes, cons_option, filter, filter_map, find, codes, IsUtf8, chars, Value, value_tree, identifier_tree, KdlEntry, KdlIdentifier, argument_value, dash_arguments, first_argument, is_node_named, same_text, KdlNode, same_bytes}
use Rattle.std.proofs.lemmas.List.Sums.{count_by-le-length}
use Rattle.kdl.specs.declared.node.KdlNode.{out-KdlNode}
use Rattle.kdl_parts.proofs.EntryLookups.{found_at}
use Rattle.kdl.proofs.Finding.ListLookups.{find_first, first_is, nth_found}

-- a node whose name's text was compared
pub named_compared : (n : KdlNode) (k : KdlIdentifier) (b s : List ℕ) → k ≡ (out-KdlNode n).name → IsUtf8 b → chars b ≡ (identifier_tree k).value → same_text b s ≡ is_node_named s n
named_compared n k b s e u c = ap (λ t. same_text t s) (same_bytes b (string_bytes (out-KdlNode n).name.value) u (IsUtf8-string_bytes (out-KdlNode n).name.value) (c ∙ ap (λ (i : KdlIdentifier). (identifier_tree i).value) e))

-- what is found is at its place
pub found_there : {A : Type 0} (p : A → Bool) (xs : List A) → find p xs ≡ option_and_then (λ i. slice_get xs i) (position p xs)
found_there p xs = find_first p xs ∙ sym (nth_found p xs 0) ∙ ap (λ o. option_and_then (λ i. slice_get xs i) o) (sym (first_is p xs))

-- nothing is found where there is no place
pub none_there : {A : Type 0} (p : A → Bool) (xs : List A) → None ≡ position p xs → find p xs ≡ None
none_there p xs e = found_there p xs ∙ ap (λ o. option_and_then (λ i. slice_get xs i) o) (sym e)

-- what is at the place is found
pub found_is : {A : Type 0} (p : A → Bool) (xs : List A) (i : ℕ) (x : A) → Some i ≡ position p xs → slice_get xs i ≡ Some x → Some x ≡ find p xs
found_is p xs i x e h = found_at xs (position p xs) i x e h ∙ sym (found_there p xs)

no_entry : (o : Option KdlEntry) → None ≡ option_map (λ e. value_tree e.value) o → o ≡ None
no_entry None e = refl
no_entry (Some x) e = absurd (none-some _ e)

-- the node that is found has no argument
pub argument_absent : (p : KdlNode → Bool) (ns : List KdlNode) (i : ℕ) (n : KdlNode) → Some i ≡ position p ns → slice_get ns i ≡ Some n → None ≡ argument_value n → option_and_then first_argument (find p ns) ≡ None
argument_absent p ns i n e h a = ap (option_and_then first_argument) (sym (found_is p ns i n e h)) ∙ no_entry (first_argument n) a

cons_most : {A : Type 0} (o : Option A) (xs : List A) (n : ℕ) → length xs ≤ n → length (cons_option o xs) ≤ suc n
cons_most None xs n h = omega arith
cons_most (Some x) xs n h = omega arith

filter_map_most : {A B : Type 0} (h : A → Option B) (xs : List A) → length (filter_map h xs) ≤ length xs
filter_map_most h [] = omega arith
filter_map_most h (x ∷ xs) = cons_most (h x) (filter_map h xs) (length xs) (filter_map_most h xs)

dashes_most : (p : KdlNode → Bool) (ns : List KdlNode) → length (filter_map argument_value (filter p ns)) ≤ length ns
dashes_most p ns = omega (arith, filter_map_most argument_value (filter p ns), length-filter p ns, count_by-le-length p ns)

-- no more first arguments than children
pub dashes_within : (s : List Value) (ns : List KdlNode) (n : ℕ) → dash_arguments ns ≡ s → n ≡ length ns → length s ≤ n
dashes_within s ns n e h = rw (← e, h) (dashes_most (is_node_named (codes "-")) ns)
