-- Nodes and documents with every text and span, whatever their layout in memory.
use Rattle.std.specs.Prelude.{List, [], ◌∷◌, map, Option, Some, None, option_map}
use Rattle.kdl_text.specs.Chars.{Text}
use Rattle.kdl_text.specs.declared.span.SourceSpan.{SourceSpan}
use Rattle.kdl_entry.specs.Tree.{Identifier, Entry, entry_data}
use Rattle.kdl_grammar.specs.Data as data'

-- the texts around the parts of a node
pub record NodeFormat : Type 0 where
  pub leading : Text
  pub before_ty_name : Text
  pub after_ty_name : Text
  pub after_ty : Text
  pub before_children : Text
  pub before_terminator : Text
  pub terminator : Text
  pub trailing : Text

-- the texts before and after the nodes of a document
pub record DocumentFormat : Type 0 where
  pub leading : Text
  pub trailing : Text

-- a node without its children
pub record Head : Type 0 where
  pub ty : Option Identifier
  pub name : Identifier
  pub entries : List Entry
  pub format : Option NodeFormat
  pub span : SourceSpan

mutual
  pub data Node : Type 0 where
    node : Head → Children → Node

  pub data Children : Type 0 where
    no_children : Children
    children : Document → Children

  pub data Document : Type 0 where
    document : Option DocumentFormat → SourceSpan → Nodes → Document

  pub data Nodes : Type 0 where
    none : Nodes
    first : Node → Nodes → Nodes

-- the data of nodes, children and documents
abbrev mutual
  pub node_data : Node → data'.Node
  node_data (node h k) = data'.node (option_map (λ i. i.value) h.ty) h.name.value (map entry_data h.entries) (children_data k)

  pub children_data : Children → data'.Children
  children_data no_children = data'.no_children
  children_data (children d) = data'.children (document_data d)

  pub document_data : Document → data'.Nodes
  document_data (document f span ns) = nodes_data ns

  pub nodes_data : Nodes → data'.Nodes
  nodes_data none = data'.none
  nodes_data (first n ns) = data'.first (node_data n) (nodes_data ns)

-- the nodes of a list
abbrev pub listed_nodes : List Node → Nodes
listed_nodes [] = none
listed_nodes (n ∷ ns) = first n (listed_nodes ns)

-- the nodes ns, followed by ms
abbrev pub join : Nodes → Nodes → Nodes
join none ms = ms
join (first n ns) ms = first n (join ns ms)

abbrev pub children_of : Option Document → Children
children_of None = no_children
children_of (Some d) = children d
