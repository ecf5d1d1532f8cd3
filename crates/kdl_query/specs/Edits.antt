-- Documents with the node at a path edited.
use Rattle.std.specs.Prelude.{◌≡◌, ℕ, zero, suc, [], ◌∷◌, Some}
pub use Rattle.c_calls.specs.Changes.{AtNode, SameTree}
pub use Rattle.kdl_grammar.specs.Data.{Node, Nodes, children, first, no_children, node, none}
use Rattle.kdl.specs.Bytes.{IsExchanged, IsExchangedInNode}
use Rattle.kdl.specs.ReadsBack.{DocumentReadsBack, ReadsAs}
use Rattle.kdl.specs.Tree.{document_prints, document_says, node_says}
use Rattle.kdl.specs.declared.document.KdlDocument.{KdlDocument}
use Rattle.kdl.specs.declared.node.KdlNode.{KdlNode}
use Rattle.kdl_text.specs.Chars.{Text}
use Rattle.kdl_query.specs.Selects.{Path, node_at}

-- the nodes with the one at i changed by f
abbrev pub changed_nth : ℕ → (Node → Node) → Nodes → Nodes
changed_nth i f none = none
changed_nth zero f (first n x) = first (f n) x
changed_nth (suc i) f (first n x) = first n (changed_nth i f x)

-- the node with the one at a path below it changed by f; the empty path is that of the node itself
abbrev pub changed_below : Path → (Node → Node) → Node → Node
changed_below [] f n = f n
changed_below (i ∷ p) f (node ty name es no_children) = node ty name es no_children
changed_below (i ∷ p) f (node ty name es (children x)) = node ty name es (children (changed_nth i (changed_below p f) x))

-- the nodes of the document with the one at a path changed by f
abbrev pub changed_at : Path → (Node → Node) → Nodes → Nodes
changed_at [] f x = x
changed_at (i ∷ p) f x = changed_nth i (changed_below p f) x

-- e is d with another node at the path, which R relates to the one that was there: all else is unchanged, also in the data. If the new node reads back where the old one
-- did, e reads back if d does. If one piece is exchanged in what the node prints, it is in what the document prints, and all other bytes are unchanged
pub record IsEditedAt (p : Path) (R : KdlNode → KdlNode → Type 0) (d e : KdlDocument) : Type 0 where
  pub node : AtNode p R d e
  pub was : node_at p (document_says d) ≡ Some (node_says node.old)
  pub says : (f : Node → Node) → f (node_says node.old) ≡ node_says node.new → document_says e ≡ changed_at p f (document_says d)
  pub reads : ReadsAs node.old node.new → DocumentReadsBack d → DocumentReadsBack e
  pub bytes : (q r : Text) → IsExchangedInNode q r node.old node.new → IsExchanged q r (document_prints d) (document_prints e)
