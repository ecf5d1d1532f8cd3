-- What the iterator over the children of a node has left, and the node after a write to its entries or children.
use base.Fml.{GName}
use Rattle.std.specs.Prelude.{List, [], ◌∷◌, Option, Some, None, slice_index_or}
use Rattle.std.specs.Slice.Iter.{iter_mut_rest, iter_mut_name}
use Rattle.std.specs.Vec.{with_items}
use Rattle.kdl_entry.specs.declared.entry.KdlEntry.{KdlEntry}
use Rattle.kdl.specs.Change.{with_children, with_entries}
use Rattle.kdl.specs.declared.document.KdlDocument.{KdlDocument, out-KdlDocument}
use Rattle.kdl.specs.declared.node.KdlNode.{KdlNode, out-KdlNode}
use Rattle.kdl.specs.declared.node.iter.ChildrenIterMut.{ChildrenIterMut}

-- the nodes of a block, or none without a block
abbrev pub nodes_in : Option KdlDocument → List KdlNode
nodes_in None = []
nodes_in (Some d) = (out-KdlDocument d).nodes.items

-- the nodes in a node's block
abbrev pub child_nodes : KdlNode → List KdlNode
child_nodes n = nodes_in (out-KdlNode n).children

-- the child block as a list of one, until it is entered
abbrev pub block_left : ChildrenIterMut → List (Option KdlDocument)
block_left it = iter_mut_rest it.block

-- the nodes of the first block of a list
abbrev pub first_nodes : List (Option KdlDocument) → List KdlNode
first_nodes [] = []
first_nodes (o ∷ os) = nodes_in o

-- the children that are still to come: all in the block, until it is entered
abbrev pub nodes_left : ChildrenIterMut → List KdlNode
nodes_left it = elim it.nodes [ None ↦ first_nodes (block_left it) | Some ns ↦ iter_mut_rest ns ]

-- the name of the loan
abbrev pub block_name : ChildrenIterMut → GName
block_name it = iter_mut_name it.block

-- the node with its child block written, and all else unchanged
abbrev pub with_written_block : KdlNode → List (Option KdlDocument) → KdlNode
with_written_block n os = with_children n (slice_index_or os 0 (out-KdlNode n).children)

-- the node with its entries written, one by one; it has as many, and all else is unchanged
abbrev pub with_written_entries : KdlNode → List KdlEntry → KdlNode
with_written_entries n es = with_entries n (with_items (out-KdlNode n).entries es)
