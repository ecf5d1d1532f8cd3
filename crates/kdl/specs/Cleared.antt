-- New nodes and documents, and nodes and documents without their formats, or without their spans.
use Rattle.std.specs.Prelude.{[], map, Some, None, option_map}
use Rattle.kdl_entry.specs.Tree as entry'
use Rattle.kdl_entry.specs.Tree.{Identifier, no_span, unspelled, cleared, without_span}
use Rattle.kdl_grammar.specs.Tree.{Head, Node, node, Children, no_children, children, Document, document, Nodes, none, first}
use Rattle.kdl_parts.specs.Formats.{ended_format}

-- a new node: only a name
abbrev pub new_node : Identifier → Node
new_node i = node (record { ty = None; name = i; entries = []; format = Some ended_format; span = no_span }) no_children

-- a new document: no nodes
abbrev pub new_document : Document
new_document = document None no_span none

-- a node's own part without the format, the spelling of the name, and the formats and spellings of the entries; the type keeps its spelling
abbrev pub cleared_head : Head → Head
cleared_head h = record h { name = unspelled h.name; entries = map cleared h.entries; format = None }

-- the same at each depth
abbrev mutual
  pub cleared_node : Node → Node
  cleared_node (node h k) = node (cleared_head h) (cleared_children k)

  pub cleared_children : Children → Children
  cleared_children no_children = no_children
  cleared_children (children d) = children (cleared_document d)

  pub cleared_document : Document → Document
  cleared_document (document f span ns) = document None span (cleared_nodes ns)

  pub cleared_nodes : Nodes → Nodes
  cleared_nodes none = none
  cleared_nodes (first n ns) = first (cleared_node n) (cleared_nodes ns)

-- a node's own part without the spans: its own, and those of its identifiers and entries
abbrev pub head_without_spans : Head → Head
head_without_spans h = record h { ty = option_map without_span h.ty; name = without_span h.name; entries = map entry'.without_spans h.entries; span = no_span }

-- the same at each depth
abbrev mutual
  pub node_without_spans : Node → Node
  node_without_spans (node h k) = node (head_without_spans h) (children_without_spans k)

  pub children_without_spans : Children → Children
  children_without_spans no_children = no_children
  children_without_spans (children d) = children (document_without_spans d)

  pub document_without_spans : Document → Document
  document_without_spans (document f span ns) = document f no_span (nodes_without_spans ns)

  pub nodes_without_spans : Nodes → Nodes
  nodes_without_spans none = none
  nodes_without_spans (first n ns) = first (node_without_spans n) (nodes_without_spans ns)
