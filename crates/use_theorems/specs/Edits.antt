-- Edits of a node, and of a node inside a document or a block.
use Rattle.std.specs.Prelude.{◌≡◌, ℕ, List, Option, Some, IfSome, IsSome, option_and_then}
use Rattle.kdl_query.specs.Edits.{node}
use Rattle.kdl.specs.Words.{IsAdded, IsArgumentSet, IsTakenOut, NodeData, Text, Value, block_of, node_format_of, node_named, value_at, with_children, with_node_named}
use Rattle.kdl.specs.declared.document.KdlDocument.{KdlDocument}
use Rattle.kdl.specs.declared.node.KdlNode.{KdlNode}

-- the value of the argument at that index, or none if the node has no format
abbrev pub formed_value_at : ℕ → KdlNode → Option Value
formed_value_at i n = option_and_then (λ _. value_at i n) (node_format_of n)

-- if d has a node of that name, e is d with another node in place of the first one, and P relates the two nodes
abbrev pub InNode : List ℕ → (KdlNode → KdlNode → Type 0) → KdlDocument → KdlDocument → Type 0
InNode s P d e = IfSome (node_named s d) (λ n. (m : KdlNode) × (e ≡ with_node_named s d m) × P n m)

-- if n has a block, m is n with another block in its place, and P relates the two blocks
abbrev pub InBlock : (KdlDocument → KdlDocument → Type 0) → KdlNode → KdlNode → Type 0
InBlock P n m = IfSome (block_of n) (λ d. (e : KdlDocument) × (m ≡ with_children n (Some e)) × P d e)

-- if n has arguments, the first one of m has the value, and other look-ups find what they find in n
abbrev pub IsFirstSet : Value → KdlNode → KdlNode → Type 0
IsFirstSet v n m = IsSome (value_at 0 n) → IsArgumentSet 0 v n m

-- a property of that name is removed, then an argument pushed, then the value of the first argument set
pub record IsEdited (s : List ℕ) (one other : Value) (n m : KdlNode) : Type 0 where
  pub without : KdlNode
  pub more : KdlNode
  pub takes : IsTakenOut s n without
  pub adds : IsAdded one without more
  pub sets : IsFirstSet other more m

-- the data of a node, with another name
abbrev pub renamed : Text → NodeData → NodeData
renamed s (node ty name es k) = node ty s es k
