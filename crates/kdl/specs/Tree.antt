-- The trees of nodes and documents in memory.
use Rattle.std.specs.Prelude.{List, map, option_map}
use Rattle.kdl_entry.specs.Tree.{identifier_tree, entry_tree}
use Rattle.kdl_text.specs.Chars.{Text}
use Rattle.kdl_grammar.specs.Data as data'
use Rattle.kdl_grammar.specs.Print.{print_node, print_document}
use Rattle.kdl_grammar.specs.Tree.{Head, Node, node, Document, document, Nodes, listed_nodes, children_of, node_data, document_data}
use Rattle.kdl.specs.declared.node.KdlNode.{KdlNode}
use Rattle.kdl.specs.declared.document.KdlDocument.{KdlDocument}
use Rattle.kdl_parts.specs.Formats.{node_format_tree, document_format_tree}
use Rattle.kdl.specs.declared.document.KdlDocument.TheOpen.{KdlDocument-F, KdlNode-F}
use Rattle.kdl.specs.declared.document.KdlDocument.TheViews.{out-KdlDocument}
use Rattle.kdl.specs.declared.document.KdlDocument.TheFolds.{fold-KdlDocument, fold-KdlNode}

-- the trees of one level, given those of the levels below
abbrev pub document_step : KdlDocument-F Document Node → Document
document_step d = document (option_map document_format_tree d.format) d.span (listed_nodes d.nodes.items)

-- a node without its children, from its fields
abbrev pub head_tree : {D N : Type 0} → KdlNode-F D N → Head
head_tree n = record {
  ty = option_map identifier_tree n.ty;
  name = identifier_tree n.name;
  entries = map entry_tree n.entries.items;
  format = option_map node_format_tree n.format;
  span = n.span;
}

abbrev pub node_step : KdlNode-F Document Node → Node
node_step n = node (head_tree n) (children_of n.children)

abbrev pub document_tree : KdlDocument → Document
document_tree = fold-KdlDocument Document Node document_step node_step

abbrev pub node_tree : KdlNode → Node
node_tree = fold-KdlNode Document Node document_step node_step

abbrev pub nodes_tree : List KdlNode → Nodes
nodes_tree ns = listed_nodes (map node_tree ns)

-- the data of a node and a document, and the text that each prints
abbrev pub node_says : KdlNode → data'.Node
node_says n = node_data (node_tree n)

abbrev pub document_says : KdlDocument → data'.Nodes
document_says d = document_data (document_tree d)

abbrev pub node_prints : KdlNode → Text
node_prints n = print_node (node_tree n) 0

abbrev pub document_prints : KdlDocument → Text
document_prints d = print_document (document_tree d) 0

-- a document, with other nodes
abbrev pub document_of : KdlDocument → List Node → Document
document_of d ns = document (option_map document_format_tree (out-KdlDocument d).format) (out-KdlDocument d).span (listed_nodes ns)
