-- The trees of nodes and documents from their parts, for a given tree of a node.
use Rattle.std.specs.Prelude.{List, [], Some, map, option_map}
use Rattle.kdl_entry.specs.Internal.Building.{type_view}
use Rattle.kdl_entry.specs.Internal.Parts.{type_of, before_name, after_name, after_type}
use Rattle.kdl_value.specs.Tree.{text_of}
use Rattle.kdl_entry.specs.Tree.{identifier_tree, entry_tree}
use Rattle.kdl_grammar.specs.Laid.{node_format}
use Rattle.kdl_grammar.specs.Tree.{Node, node, Document, document, Nodes, listed_nodes, children_of}
use Rattle.kdl_parser.specs.declared.node_parts.DocumentParts.{DocumentParts}
use Rattle.kdl_parser.specs.declared.node_parts.NodeParts.{NodeParts}

abbrev pub nodes_tree : {N : Type 0} → (N → Node) → List N → Nodes
nodes_tree tree ns = listed_nodes (map tree ns)

abbrev pub document_by : {N : Type 0} → (N → Node) → DocumentParts N → Document
document_by tree d = document (Some (record { leading = text_of d.leading; trailing = text_of d.trailing })) d.span (nodes_tree tree d.nodes.items)

abbrev pub node_by : {N : Type 0} → (N → Node) → NodeParts N → Node
node_by tree n = node (record {
  ty = type_of (option_map type_view n.ty);
  name = identifier_tree n.name;
  entries = map entry_tree n.entries.items;
  format = Some (node_format (text_of n.leading) (before_name (option_map type_view n.ty)) (after_name (option_map type_view n.ty)) (after_type (option_map type_view n.ty)) (text_of n.before_children) (text_of n.before_terminator) (text_of n.terminator) []);
  span = n.span;
}) (children_of (option_map (document_by tree) n.children))
