-- Look-ups in lists, an element at a time, and the bytes of names.
use Rattle.kdl_parts.proofs.Common.{◌≡◌, ℕ, suc, ◌+◌, ◌≤◌, List, [], ◌∷◌, ◌++◌, length, true, false, Option, None, Some, option_map, slice_get, refl, ap, ◌∙◌, sym, arith, string_bytes, length-map, IsUtf8-string_bytes, IsUtf8, chars, Text, Identifier, identifier_tree, KdlEntry, KdlIdentifier, arguments, is_argument, last_place}
use Rattle.std.proofs.Common.{Bool, option_and_then, Vec, Global}
use Rattle.std.proofs.lemmas.List.Sums.{count_by-le-length, length-filter}
use Rattle.std.proofs.lemmas.Option.{none-some}
use Rattle.std.proofs.lemmas.Str.{encodes-chars}
use Rattle.std.specs.List.{filter}
use Rattle.std.specs.Vec.{with_item}
use lib.Utf8.{encodes}
use Rattle.kdl_value.specs.Data.{Value}
use Rattle.kdl_value.specs.Tree.{value_tree}
use Rattle.kdl_value.specs.declared.value.KdlValue.{KdlValue}
use Rattle.kdl_parts.specs.EntryLists.{later, same_text, is_name}
use Rattle.kdl_parts.specs.Written.{set_value_at}

-- texts of the same characters have the same bytes
pub same_bytes : (xs ys : List ℕ) → IsUtf8 xs → IsUtf8 ys → chars xs ≡ chars ys → xs ≡ ys
same_bytes xs ys u v e = sym (encodes-chars xs u) ∙ ap encodes e ∙ encodes-chars ys v

-- one more element: the last place is there, if p holds
abbrev pub or_there : Option ℕ → ℕ → Bool → Option ℕ
or_there found n true = Some n
or_there found n false = found

later_there : (found : Option ℕ) (n : ℕ) (b c : Bool) → later (or_there found n b) c ≡ or_there (later found c) (suc n) b
later_there found n true c = refl
later_there found n false c = refl

there_zero : (b : Bool) → later None b ≡ or_there None 0 b
there_zero true = refl
there_zero false = refl

pub last_place_push : {A : Type 0} (p : A → Bool) (xs : List A) (x : A) → last_place p (xs ++ x ∷ []) ≡ or_there (last_place p xs) (length xs) (p x)
last_place_push p [] x = there_zero (p x)
last_place_push p (y ∷ xs) x = ap (λ o. later o (p y)) (last_place_push p xs x) ∙ later_there (last_place p xs) (length xs) (p x) (p y)

-- n more places
abbrev pub after : ℕ → Option ℕ → Option ℕ
after i o = option_map (λ k. k + i) o

abbrev name_text : Option Identifier → Text
name_text None = []
name_text (Some i) = i.value

-- a key whose text was compared with the name
pub name_compared : (o : Option KdlIdentifier) (k : KdlIdentifier) (b s : List ℕ) → Some (identifier_tree k) ≡ option_map identifier_tree o → IsUtf8 b → chars b ≡ (identifier_tree k).value → same_text b s ≡ is_name s o
name_compared None k b s e u c = absurd (none-some _ (sym e))
name_compared (Some i) k b s e u c = ap (λ t. same_text t s) (same_bytes b (string_bytes i.value) u (IsUtf8-string_bytes i.value) (c ∙ ap name_text e))

arguments_most : (es : List KdlEntry) → length (arguments es) ≤ length es
arguments_most es = omega (arith, length-map (filter is_argument es) (λ e. value_tree e.value), length-filter is_argument es, count_by-le-length is_argument es)

-- no more arguments than entries
pub arguments_within : (s : List Value) (es : List KdlEntry) (n : ℕ) → arguments es ≡ s → n ≡ length es → length s ≤ n
arguments_within s es n e h = rw (← e, h) (arguments_most es)

-- what is at a place that was found
pub found_at : {A : Type 0} (xs : List A) (o : Option ℕ) (i : ℕ) (x : A) → Some i ≡ o → slice_get xs i ≡ Some x → Some x ≡ option_and_then (λ k. slice_get xs k) o
found_at xs o i x e h = rw (← e, h) refl

-- the value of the entry at i is exchanged
pub set_value_is : (v : Vec KdlEntry Global) (i : ℕ) (e : KdlEntry) → slice_get v.items i ≡ Some e → (w : KdlValue) → with_item v i (record e { value = w }) ≡ set_value_at v i w
set_value_is v i e h w = rw (h, set_value_at) refl
