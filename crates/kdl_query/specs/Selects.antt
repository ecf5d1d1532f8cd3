-- Which paths a query selects.
use Rattle.std.specs.List.{Any, AllPairs}
use Rattle.std.specs.Prelude.{◌≡◌, ◌++◌, ◌⊎◌, ◌<◌, ◌↔◌, ℕ, suc, List, [], ◌∷◌, Option, Some, None, IsSomeAnd, Contains, option_and_then, slice_get, map}
use Rattle.kdl_grammar.specs.Data.{Node, Nodes}
use Rattle.kdl.specs.Said.{said_child_nodes, said_nodes}
use Rattle.kdl_query.specs.Data.{NodeTest, Query, Selector, any_node, start, then, top}
use Rattle.kdl_query.specs.Tests.{Meets}
use Rattle.kdl_query.specs.declared.tree.Combinator.{Combinator}
use Rattle.kdl_query.specs.declared.tree.Combinator.TheVariants.{Child, Descendant, NextSibling, LaterSibling}

-- a path: the place of a top-level node, that of one of its children, and so on; the empty path is the document
abbrev pub Path : Type 0
Path = List ℕ

-- the node at a path that begins at a node
abbrev pub node_below : Path → Node → Option Node
node_below [] n = Some n
node_below (i ∷ p) n = option_and_then (node_below p) (slice_get (said_child_nodes n) i)

-- the node of the document at a path, if there is one
abbrev pub node_at : Path → Nodes → Option Node
node_at [] x = None
node_at (i ∷ p) x = option_and_then (node_below p) (slice_get (said_nodes x) i)

-- q is the parent of p, a node or document around it, the sibling directly before it, some sibling before it
abbrev pub Relates : Combinator → Path → Path → Type 0
Relates Child q p = (i : ℕ) × (p ≡ q ++ i ∷ [])
Relates Descendant q p = (i : ℕ) × (r : Path) × (p ≡ q ++ i ∷ r)
Relates NextSibling q p = (r : Path) × (i : ℕ) × (q ≡ r ++ i ∷ []) × (p ≡ r ++ suc i ∷ [])
Relates LaterSibling q p = (r : Path) × (i : ℕ) × (j : ℕ) × (i < j) × (q ≡ r ++ i ∷ []) × (p ≡ r ++ j ∷ [])

-- a node is at the path, and it meets the test
abbrev pub MeetsAt : Nodes → NodeTest → Path → Type 0
MeetsAt x t p = IsSomeAnd (node_at p x) (Meets t)

-- the selector leads to the path in the document
abbrev pub Reaches : Nodes → Selector → Path → Type 0
Reaches x top p = p ≡ []
Reaches x (start t) p = MeetsAt x t p
Reaches x (then s c t) p = MeetsAt x t p × ((q : Path) × Reaches x s q × Relates c q p)

-- the selector selects the path; `top()` alone selects the top-level nodes
abbrev pub Selects : Nodes → Selector → Path → Type 0
Selects x top p = Reaches x (then top Child any_node) p
Selects x s p = Reaches x s p

-- one of the selectors of the query does
abbrev pub IsSelected : Nodes → Query → Path → Type 0
IsSelected x q p = Any (λ s. Selects x s p) q

-- the document has p before q: a node is before its children, and these are before its later siblings
abbrev pub IsBefore : Path → Path → Type 0
IsBefore p [] = ⊥
IsBefore [] (j ∷ q) = Unit {0}
IsBefore (i ∷ p) (j ∷ q) = (i < j) ⊎ ((i ≡ j) × IsBefore p q)

-- these are exactly the paths that the query selects, in the order of the document, each once
pub record IsSelection (x : Nodes) (q : Query) (ps : List Path) : Type 0 where
  pub each : (p : Path) → Contains ps p ↔ IsSelected x q p
  pub ordered : AllPairs IsBefore ps

-- the query selects the path, and no path before it
abbrev pub IsFirstPath : Nodes → Query → Path → Type 0
IsFirstPath x q p = IsSelected x q p × ((r : Path) → IsSelected x q r → (r ≡ p) ⊎ IsBefore p r)

-- these are the nodes at those paths
pub record AreSelected (x : Nodes) (q : Query) (ns : List Node) : Type 0 where
  pub paths : List Path
  pub selection : IsSelection x q paths
  pub nodes : map (λ p. node_at p x) paths ≡ map Some ns

-- this is the first of them
pub record IsFirstSelected (x : Nodes) (q : Query) (n : Node) : Type 0 where
  pub path : Path
  pub selected : IsSelected x q path
  pub first : (p : Path) → IsSelected x q p → (p ≡ path) ⊎ IsBefore path p
  pub node : node_at path x ≡ Some n
