-- The blocks that a path goes through, and its steps.
use Rattle.std.specs.Option.{option_map_or}
use Rattle.std.specs.Prelude.{◌≡◌, ◌≤◌, ℕ, List, [], ◌∷◌, ◌++◌, Some, drop, length, map, slice_get, string_bytes, take}
use Rattle.kdl.specs.Words.{NodeData, said_child_nodes, said_name}
use Rattle.kdl_query.specs.Selects.{Path}
use Rattle.cli_shown.specs.Names.{named_before, step_bytes}
use Rattle.cli_shown.specs.declared.trail.Trail.{Trail}

-- the numbers say of each node of a block how many of its name are before it
abbrev pub AreRanks : List ℕ → List NodeData → Type 0
AreRanks rs xs = (i : ℕ) (n : NodeData) → slice_get xs i ≡ Some n → slice_get rs i ≡ Some (named_before i (said_name n) xs)

-- the nodes in the block of the node at an index
abbrev pub inside_at : ℕ → List NodeData → List NodeData
inside_at i xs = option_map_or said_child_nodes (slice_get xs i) []

-- these are the ranks in the first blocks that a path goes through
abbrev pub AreRanksAlong : List (List ℕ) → Path → List NodeData → Type 0
AreRanksAlong [] p xs = Unit {0}
AreRanksAlong (r ∷ rs) [] xs = AreRanks r xs × (rs ≡ [])
AreRanksAlong (r ∷ rs) (i ∷ p) xs = AreRanks r xs × AreRanksAlong rs p (inside_at i xs)

-- a whole path from the top has reached these nodes at a depth, and the rest of it is p; the ranks are those of the blocks along it
abbrev pub IsAt : List (List ℕ) → ℕ → Path → List NodeData → Path → List NodeData → Type 0
IsAt rs d p xs whole top = (d ≤ length rs) × AreRanksAlong (drop d rs) p xs × ((below : List (List ℕ)) → AreRanksAlong below p xs → AreRanksAlong (take d rs ++ below) whole top)

-- the ranks in the blocks of a trail
abbrev pub trail_ranks : Trail → List (List ℕ)
trail_ranks t = map (λ b. b.items) t.blocks.items

-- the texts of the steps of a path that begins among these nodes
abbrev pub step_texts : Path → List NodeData → List (List ℕ)
step_texts [] xs = []
step_texts (i ∷ p) xs = option_map_or (λ n. step_bytes i xs n ∷ step_texts p (said_child_nodes n)) (slice_get xs i) []

-- these texts are the first of them all
abbrev pub AreFirst : List (List ℕ) → List (List ℕ) → Type 0
AreFirst ss all = ss ≡ take (length ss) all

-- the texts of the steps in a trail
abbrev pub trail_steps : Trail → List (List ℕ)
trail_steps t = map string_bytes t.steps.items

-- a trail has the ranks along the path, and the texts of its first steps, in a document of these nodes
abbrev pub IsTrail : Trail → Path → List NodeData → Type 0
IsTrail t p xs = AreRanksAlong (trail_ranks t) p xs × AreFirst (trail_steps t) (step_texts p xs)
