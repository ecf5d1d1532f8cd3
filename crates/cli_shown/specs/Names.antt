-- The PATH of a node, in bytes.
use Rattle.std.specs.List.{filter}
use Rattle.std.specs.Option.{option_map_or}
use Rattle.std.specs.Prelude.{ℕ, zero, suc, Bool, false, List, [], ◌∷◌, ◌++◌, ◌==◌, if◌then◌else◌, decimal, encode_utf8_all, length, slice_get, take}
use Rattle.kdl.specs.Said.{is_called}
use Rattle.kdl.specs.Words.{NodeData, Text, said_child_nodes, said_name}
use Rattle.kdl_query.specs.Selects.{Path}
use Rattle.kdl_value.specs.Spelled.{spelled}

-- how many of the nodes before a place have the name
abbrev pub named_before : ℕ → Text → List NodeData → ℕ
named_before i name xs = length (filter (is_called name) (take i xs))

-- an index of a PATH, which is left out if it is 0
abbrev pub index_bytes : ℕ → List ℕ
index_bytes zero = []
index_bytes (suc n) = 91 ∷ decimal (suc n) ++ (93 ∷ [])

-- whether the text begins with `@`
abbrev pub begins_with_at : List ℕ → Bool
begins_with_at [] = false
begins_with_at (b ∷ s) = b == 64

-- a name of a PATH: the string as it is printed, between quotes if that begins with `@`
abbrev pub name_bytes : Text → List ℕ
name_bytes s = let t = encode_utf8_all (spelled s) in if begins_with_at t then 34 ∷ t ++ (34 ∷ []) else t

-- a step of a PATH: the name of the node at a place, and its index among the nodes of that name
abbrev pub step_bytes : ℕ → List NodeData → NodeData → List ℕ
step_bytes i xs n = name_bytes (said_name n) ++ index_bytes (named_before i (said_name n) xs)

-- `/`, if the path goes on
abbrev pub separator : Path → List ℕ
separator [] = []
separator (i ∷ p) = 47 ∷ []

-- the PATH of the node at a path that begins among these nodes
abbrev pub path_bytes : Path → List NodeData → List ℕ
path_bytes [] xs = []
path_bytes (i ∷ p) xs = option_map_or (λ n. step_bytes i xs n ++ separator p ++ path_bytes p (said_child_nodes n)) (slice_get xs i) []
