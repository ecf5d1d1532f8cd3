-- The data of a document after edits at paths.
use Rattle.std.proofs.Common.{◌≡◌, refl, ℕ, List, [], ◌∷◌, Some, None, codes, pos}
use Rattle.kdl_value.specs.Data.{integer}
use Rattle.kdl_entry.specs.Data.{Entry}
use Rattle.kdl_grammar.specs.Data.{Node, node, no_children, children, Nodes, none, first}
use Rattle.kdl_path.specs.Each.{edited_at, removed}
use Rattle.kdl_path.specs.Edits.{node_with_value}
use Rattle.kdl_path.specs.declared.path.Target.TheVariants as target

abbrev arg : ℕ → List Entry
arg n = record { key = None; ty = None; value = integer (pos n) } ∷ []

abbrev leaf : List ℕ → ℕ → Node
leaf name n = node None name (arg n) no_children

abbrev parent : ℕ → Nodes → Node
parent n x = node None (codes "a") (arg n) (children x)

-- a 1 { b 2; c 3; }; d 4
abbrev tree : Nodes
tree = first (parent 1 (first (leaf (codes "b") 2) (first (leaf (codes "c") 3) none))) (first (leaf (codes "d") 4) none)

-- without b and d
pub two_removed : edited_at ((0 ∷ 0 ∷ []) ∷ (1 ∷ []) ∷ []) (removed target.Node) tree ≡ first (parent 1 (first (leaf (codes "c") 3) none)) none
two_removed = refl

-- without a, and c in it
pub inner_removed : edited_at ((0 ∷ []) ∷ (0 ∷ 1 ∷ []) ∷ []) (removed target.Node) tree ≡ first (leaf (codes "d") 4) none
inner_removed = refl

-- with 9 in a and c
pub two_set : edited_at ((0 ∷ []) ∷ (0 ∷ 1 ∷ []) ∷ []) (λ n. Some (node_with_value target.Node (integer (pos 9)) n)) tree
    ≡ first (parent 9 (first (leaf (codes "b") 2) (first (leaf (codes "c") 9) none))) (first (leaf (codes "d") 4) none)
two_set = refl
