-- Documents with one node changed, and all other nodes as before.
use Rattle.std.specs.Prelude.{◌≡◌, ℕ, zero, suc, List, [], ◌∷◌, Some, slice_get, slice_set}
use Rattle.kdl.specs.Words.{entries_of, held_entries, nodes_of, with_entries}
use Rattle.kdl.specs.Words.{Document, Entry, Node, document_tree, entry_tree, node_tree}
use Rattle.kdl.specs.declared.document.KdlDocument.{KdlDocument}
use Rattle.kdl.specs.declared.node.KdlNode.{KdlNode}
use Rattle.kdl_entry.specs.declared.entry.KdlEntry.{KdlEntry}
use Rattle.kdl_grammar.specs.Tree.{Nodes, children, document, first, no_children, node, none}
use Rattle.c_calls.specs.Paths.{node_at}

-- the nodes with the one at i changed by f
abbrev pub changed_nth : ℕ → (Node → Node) → Nodes → Nodes
changed_nth i f none = none
changed_nth zero f (first n ns) = first (f n) ns
changed_nth (suc i) f (first n ns) = first n (changed_nth i f ns)

-- the node with the one at a path below it changed by f; the empty path is the node itself
abbrev pub changed_below : List ℕ → (Node → Node) → Node → Node
changed_below [] f n = f n
changed_below (i ∷ is) f (node h no_children) = node h no_children
changed_below (i ∷ is) f (node h (children (document o s ns))) = node h (children (document o s (changed_nth i (changed_below is f) ns)))

-- the document with the node at a path changed by f; there is no node at the empty path
abbrev pub changed_at : List ℕ → (Node → Node) → Document → Document
changed_at [] f d = d
changed_at (i ∷ is) f (document o s ns) = document o s (changed_nth i (changed_below is f) ns)

-- e is d with another node at the path, which R relates to the old one; all other nodes and texts are as before
pub record AtNode (path : List ℕ) (R : KdlNode → KdlNode → Type 0) (d e : KdlDocument) : Type 0 where
  pub old : KdlNode
  pub new : KdlNode
  pub there : node_at path (nodes_of d) ≡ Some old
  pub related : R old new
  pub rest : document_tree e ≡ changed_at path (λ _. node_tree new) (document_tree d)

-- m is n with another entry at i, which R relates to the old one
pub record AtEntry (i : ℕ) (R : Entry → Entry → Type 0) (n m : KdlNode) : Type 0 where
  pub old : KdlEntry
  pub new : KdlEntry
  pub there : slice_get (entries_of n) i ≡ Some old
  pub related : R (entry_tree old) (entry_tree new)
  pub entries : entries_of m ≡ slice_set (entries_of n) i new
  pub rest : m ≡ with_entries n (held_entries m)

-- e has the same texts, values, spellings and spans as d
abbrev pub SameTree : KdlDocument → KdlDocument → Type 0
SameTree d e = document_tree e ≡ document_tree d
