-- A document that is taken apart along a path.
use Rattle.std.specs.Prelude.{◌≡◌, ℕ, List, [], ◌∷◌, ◌++◌, Option, Some, option_and_then, slice_get}
use Rattle.kdl.specs.Words.{Document, Node, block_of, document_tree, nodes_of}
use Rattle.kdl.specs.declared.document.KdlDocument.{KdlDocument}
use Rattle.kdl_grammar.specs.Tree.{Children, children, document, no_children, node}
use Rattle.c_calls.specs.Changes.{changed_at, changed_nth}
use Rattle.c_calls.specs.Paths.{nodes_at}
use Rattle.c_calls.specs.declared.opened.Above.{Above}
use Rattle.c_calls.specs.declared.opened.Opened.{Opened}

-- the block of the node at i, if it has one
abbrev pub block_in : ℕ → KdlDocument → Option KdlDocument
block_in i d = option_and_then block_of (slice_get (nodes_of d) i)

-- the node with these children
abbrev pub with_kids : Children → Node → Node
with_kids k (node h _) = node h k

-- the document with these children in the node at i
abbrev pub with_kids_at : ℕ → Children → Document → Document
with_kids_at i k (document o s ns) = document o s (changed_nth i (with_kids k) ns)

-- the whole document after the block c is put back into the documents above it, the outermost of which is first
abbrev pub plugged : List Above → Document → Document
plugged [] c = c
plugged (a ∷ more) c = with_kids_at a.index (children (plugged more c)) (document_tree a.document)

-- p is o after one more step, into the block of the node at i
pub record HasEntered (i : ℕ) (o p : Opened) : Type 0 where
  pub outer : Above
  pub block : block_in i o.block ≡ Some p.block
  pub index : outer.index ≡ i
  pub without : document_tree outer.document ≡ with_kids_at i no_children (document_tree o.block)
  pub above : p.above.items ≡ o.above.items ++ outer ∷ []

-- d is taken apart along the path, except for `rest`: from the block, `rest` leads to the nodes to which the path leads
-- from d, and a change to one of them changes the same node in d
pub record IsOnTheWay (rest path : List ℕ) (d : KdlDocument) (o : Opened) : Type 0 where
  pub nodes : nodes_at rest (nodes_of o.block) ≡ nodes_at path (nodes_of d)
  pub whole : plugged o.above.items (document_tree o.block) ≡ document_tree d
  pub changed : (i : ℕ) (x : Node) → plugged o.above.items (changed_at (rest ++ i ∷ []) (λ _. x) (document_tree o.block)) ≡ changed_at (path ++ i ∷ []) (λ _. x) (document_tree d)

-- d is taken apart along the whole path
abbrev pub IsOpened : List ℕ → KdlDocument → Opened → Type 0
IsOpened path d o = IsOnTheWay [] path d o
