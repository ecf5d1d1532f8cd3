-- What is left to print when some of the nodes and blocks are printed.
use Rattle.std.specs.Prelude.{ℕ, ◌+◌, List, [], ◌∷◌, ◌++◌, length, map, option_map}
use Rattle.kdl_text.specs.Chars.{Text}
use Rattle.kdl_entry.specs.Tree.{entry_tree}
use Rattle.kdl_grammar.specs.Print.{print_head, print_pieces, print_nodes, before_block, end_text}
use Rattle.kdl_parts.specs.Formats.{node_format_tree}
pub use Rattle.kdl_parts.specs.Printed.{Prints}
use Rattle.kdl_parts.specs.Printed.{block_end, block_start}
use Rattle.kdl.specs.Tree.{head_tree, nodes_tree}
use Rattle.kdl.specs.declared.node.KdlNode.{KdlNode}
use Rattle.kdl.specs.declared.document.KdlDocument.{KdlDocument}
use Rattle.kdl.specs.declared.document.KdlDocument.TheViews.{out-KdlDocument, out-KdlNode}
use Rattle.kdl.specs.declared.print.NodeFrame.{NodeFrame}

-- a node up to its last entry, at a depth
abbrev pub front : KdlNode → ℕ → Text
front n depth = print_head (head_tree (out-KdlNode n)) depth ++ print_pieces (map entry_tree (out-KdlNode n).entries.items)

-- its terminator, with the texts around it
abbrev pub node_end : KdlNode → Text
node_end n = end_text (option_map node_format_tree (out-KdlNode n).format)

-- the text before its block
abbrev pub node_before_block : KdlNode → Text
node_before_block n = before_block (option_map node_format_tree (out-KdlNode n).format) (map entry_tree (out-KdlNode n).entries.items)

-- a node without children
abbrev pub line : KdlNode → ℕ → Text
line n depth = front n depth ++ node_end n

-- a node up to the first node in its block
abbrev pub opening : KdlNode → KdlDocument → ℕ → Text
opening n d depth = front n depth ++ node_before_block n ++ block_start (out-KdlDocument d).format

-- a node from the last node in its block to its own end
abbrev pub closing : KdlNode → KdlDocument → ℕ → Text
closing n d depth = block_end (out-KdlDocument d).format depth ++ node_end n

-- the blocks that are open, the outermost first, and the nodes after each
abbrev pub print_above : List NodeFrame → ℕ → Text
print_above [] depth = []
print_above (o ∷ os) depth = print_above os (depth + 1) ++ closing o.node.now o.block.now depth ++ print_nodes (nodes_tree o.following.now) depth

-- the nodes in the innermost block, and then the blocks that are open
abbrev pub print_left : List KdlNode → List NodeFrame → Text
print_left rest above = print_nodes (nodes_tree rest) (length above) ++ print_above above 0
