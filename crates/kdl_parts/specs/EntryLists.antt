-- Where look-ups find an entry.
use Rattle.std.specs.List.{filter}
use Rattle.std.specs.Prelude.{◌≡◌, ◌<◌, IfSome, length, ℕ, zero, suc, List, [], ◌∷◌, Bool, true, false, ◌==◌, Option, Some, None, map, option_map, option_and_then, is_none, slice_get, string_bytes, position}
use Rattle.std.specs.Cmp.Lexicographic.{pointwise}
use Rattle.kdl_entry.specs.declared.entry.KdlEntry.{KdlEntry}
use Rattle.kdl_entry.specs.declared.identifier.KdlIdentifier.{KdlIdentifier}
use Rattle.kdl_value.specs.Data.{Value}
use Rattle.kdl_value.specs.declared.value.KdlValue.{KdlValue}
use Rattle.kdl_value.specs.Tree.{value_tree}
use Rattle.kdl_entry.specs.Fields.{entry_name_of, entry_value_of, string_of}
use Rattle.kdl_entry.specs.Tree.{Identifier, identifier_tree}
use Rattle.kdl_parts.specs.declared.key.NodeKey.{NodeKey}
use Rattle.kdl_parts.specs.declared.key.NodeKey.TheVariants.{Key, Index}

-- what a key looks for: a property of that name, or the argument at that place
pub data Sought : Type 0 where
  property : Identifier → Sought
  argument : ℕ → Sought

abbrev pub sought : NodeKey → Sought
sought (Key k) = property (identifier_tree k)
sought (Index n) = argument n

-- the bytes of the name that a key looks for, or none if it looks for an argument
abbrev pub key_name : NodeKey → Option (List ℕ)
key_name (Key k) = Some (string_bytes (string_of k))
key_name (Index n) = None

-- the place of the argument that is sought, or none if a property is sought
abbrev pub argument_sought : Sought → Option ℕ
argument_sought (property k) = None
argument_sought (argument n) = Some n

-- the place of the argument that a key looks for, or none if it looks for a property
abbrev pub key_index : NodeKey → Option ℕ
key_index k = argument_sought (sought k)

-- the two texts have the same bytes
abbrev pub same_text : List ℕ → List ℕ → Bool
same_text = pointwise ◌==◌

-- the identifier's value is the text
abbrev pub is_name : List ℕ → Option KdlIdentifier → Bool
is_name s None = false
is_name s (Some i) = same_text (string_bytes (string_of i)) s

-- the entry is a property of that name
abbrev pub has_name : List ℕ → KdlEntry → Bool
has_name s e = is_name s (entry_name_of e)

-- the entry has no name
abbrev pub is_argument : KdlEntry → Bool
is_argument e = is_none (entry_name_of e)

-- the last place, given the last place among the elements after the first, and whether the first is one
abbrev pub later : Option ℕ → Bool → Option ℕ
later (Some i) b = Some (suc i)
later None true = Some 0
later None false = None

-- the last place where p holds
abbrev pub last_place : {A : Type 0} → (A → Bool) → List A → Option ℕ
last_place p [] = None
last_place p (x ∷ xs) = later (last_place p xs) (p x)

-- the place of the n-th, given whether the first element is one, and the places `rest` after it
abbrev pub nth_step : Bool → ℕ → (ℕ → Option ℕ) → Option ℕ
nth_step true zero rest = Some 0
nth_step true (suc n) rest = option_map suc (rest n)
nth_step false n rest = option_map suc (rest n)

-- the place of the n-th element, counted from 0, where p holds
abbrev pub nth_place : {A : Type 0} → (A → Bool) → List A → ℕ → Option ℕ
nth_place p [] n = None
nth_place p (x ∷ xs) n = nth_step (p x) n (nth_place p xs)

-- the place that `get` looks at: the last property of that name, or that argument
abbrev pub place_of : NodeKey → List KdlEntry → Option ℕ
place_of (Key k) es = last_place (has_name (string_bytes (string_of k))) es
place_of (Index n) es = nth_place is_argument es n

-- the place that `remove` looks at: the first property of that name, or that argument
abbrev pub removed_place : NodeKey → List KdlEntry → Option ℕ
removed_place (Key k) es = position (has_name (string_bytes (string_of k))) es
removed_place (Index n) es = nth_place is_argument es n

-- r is the place o among the elements, if there is one
pub record IsFoundAt {A : Type 0} (o : Option ℕ) (xs : List A) (r : Option ℕ) : Type 0 where
  pub place : r ≡ o
  pub bound : IfSome r (λ i. i < length xs)

-- what is at a place that was found
abbrev pub there : {A : Type 0} → Option ℕ → List A → Option A
there o xs = option_and_then (λ i. slice_get xs i) o

-- the entry that `get` finds
abbrev pub found : NodeKey → List KdlEntry → Option KdlEntry
found key es = there (place_of key es) es

-- the argument at that place among the arguments, and the last property of that name
abbrev pub argument_at : ℕ → List KdlEntry → Option KdlEntry
argument_at n es = there (nth_place is_argument es n) es

abbrev pub property_named : List ℕ → List KdlEntry → Option KdlEntry
property_named s es = there (last_place (has_name s) es) es

-- the value of an entry, if there is one; the same as it is in memory
abbrev pub value_of : Option KdlEntry → Option Value
value_of o = option_map (λ e. value_tree (entry_value_of e)) o

abbrev pub held_value : Option KdlEntry → Option KdlValue
held_value o = option_map entry_value_of o

-- the values of the arguments among entries, in order
abbrev pub arguments : List KdlEntry → List Value
arguments es = map (λ e. value_tree (entry_value_of e)) (filter is_argument es)
