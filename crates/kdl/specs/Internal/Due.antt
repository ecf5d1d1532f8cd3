-- Nodes that are due to be cleared, and what clearing does to one of them.
use Rattle.std.specs.List.{All}
use Rattle.std.specs.Prelude.{◌≡◌, ℕ, Bool, true, false, Option, Some, None, List, ◌++◌, is_some, length, map, slice_index_or, slice_set}
use Rattle.kdl_grammar.specs.Tree.{NodeFormat, Node, node}
use Rattle.kdl_parts.specs.Formats.{empty_node_format}
use Rattle.kdl.specs.Cleared.{cleared_head}
use Rattle.kdl.specs.Tree.{head_tree, node_tree}
use Rattle.kdl.specs.declared.node.KdlNode.{KdlNode}
use Rattle.kdl.specs.declared.document.KdlDocument.{KdlDocument}
use Rattle.kdl.specs.declared.document.KdlDocument.TheViews.{out-KdlDocument, out-KdlNode}

-- the format, or an empty one if there is none
abbrev pub formed : Option NodeFormat → Option NodeFormat
formed None = Some empty_node_format
formed (Some f) = Some f

-- a node that is made due: it has a format
abbrev pub due : Node → Node
due (node h k) = node (record h { format = formed h.format }) k

-- whether a node is due
abbrev pub is_due : KdlNode → Bool
is_due n = is_some (out-KdlNode n).format

-- new is old without its own format, and with each of its nodes due
pub record BecomesDue (old new : KdlDocument) : Type 0 where
  pub format : (out-KdlDocument new).format ≡ None
  pub span : (out-KdlDocument new).span ≡ (out-KdlDocument old).span
  pub nodes : map node_tree (out-KdlDocument new).nodes.items ≡ map due (map node_tree (out-KdlDocument old).nodes.items)

-- if the first nodes of a document aren't due and all others are, the others begin at this place
abbrev pub AreDueFrom : KdlDocument → ℕ → Type 0
AreDueFrom d at = (done left : List KdlNode) → (out-KdlDocument d).nodes.items ≡ done ++ left → All (λ n. is_due n ≡ false) done → All (λ n. is_due n ≡ true) left → at ≡ length done

-- m is n without its format, its spellings and its block, which was this
pub record IsAlone (block : Option KdlDocument) (n m : KdlNode) : Type 0 where
  pub head : head_tree (out-KdlNode m) ≡ cleared_head (head_tree (out-KdlNode n))
  pub none : (out-KdlNode m).children ≡ None
  pub had : block ≡ (out-KdlNode n).children

-- m is n with one block in the place of another
pub record HasInstead (block other : Option KdlDocument) (n m : KdlNode) : Type 0 where
  pub has : out-KdlNode m ≡ record (out-KdlNode n) { children = block }
  pub had : other ≡ (out-KdlNode n).children

-- the node at the place is replaced by another one, R holds between the two, and nothing else changed
pub record ExchangedAt (old new : KdlDocument) (at : ℕ) (R : KdlNode → KdlNode → Type 0) : Type 0 where
  pub was : KdlNode
  pub is : KdlNode
  pub found : (d : KdlNode) → slice_index_or (out-KdlDocument old).nodes.items at d ≡ was
  pub nodes : (out-KdlDocument new).nodes.items ≡ slice_set (out-KdlDocument old).nodes.items at is
  pub format : (out-KdlDocument new).format ≡ (out-KdlDocument old).format
  pub span : (out-KdlDocument new).span ≡ (out-KdlDocument old).span
  pub holds : R was is
