-- Which copies there are when some of the nodes and blocks are copied.
use Rattle.std.specs.Prelude.{List, [], ◌∷◌, ◌++◌, map, option_map, Option, Vec}
use Rattle.kdl_grammar.specs.Tree.{Node, node, children, children_of}
use Rattle.kdl.specs.Tree.{head_tree, node_tree, document_tree, document_of}
use Rattle.kdl.specs.declared.node.KdlNode.{KdlNode}
use Rattle.kdl.specs.declared.document.KdlDocument.{KdlDocument}
use Rattle.kdl.specs.declared.document.KdlDocument.TheViews.{out-KdlNode}
use Rattle.kdl.specs.declared.print.NodeFrame.{NodeFrame}
use Rattle.std.specs.declared.alloc.Global.{Global}

-- a node, with other children
abbrev pub with_children : KdlNode → Option KdlDocument → Node
with_children n o = node (head_tree (out-KdlNode n)) (children_of (option_map document_tree o))

-- a node with a block of such nodes
abbrev pub with_block : KdlNode → KdlDocument → List Node → Node
with_block n d ns = node (head_tree (out-KdlNode n)) (children (document_of d ns))

-- an open block, and the copies of the nodes before its own
abbrev pub CopyFrame : Type 0
CopyFrame = NodeFrame × Vec KdlNode Global

-- the copies up to that of its node, if its block has these nodes
abbrev pub closed : CopyFrame → List Node → List Node
closed o ns = map node_tree o.1.items ++ with_block o.0.node.now o.0.block.now ns ∷ []

-- the outermost nodes: the open blocks, the outermost first, and the nodes of the innermost
abbrev pub outermost : List CopyFrame → List Node → List Node
outermost [] ns = ns
outermost (o ∷ os) ns = closed o (outermost os ns) ++ map node_tree o.0.following.now
