-- What look-ups in a document return, and the document after a write through the references that they return.
use Rattle.std.specs.List.{filter, filter_map, find}
use Rattle.std.specs.Prelude.{ℕ, Bool, List, [], Option, Some, None, codes, option_and_then, option_map, position, slice_get, string_bytes}
use Rattle.kdl_value.specs.Data.{Value}
use Rattle.kdl_value.specs.Tree.{value_tree}
use Rattle.kdl_entry.specs.Fields.{entry_value_of, string_of}
use Rattle.kdl_entry.specs.declared.entry.KdlEntry.{KdlEntry}
use Rattle.kdl_value.specs.declared.value.KdlValue.{KdlValue}
use Rattle.kdl.specs.Change.{with_node}
use Rattle.kdl_parts.specs.EntryLists.{arguments, is_argument, nth_place, same_text}
use Rattle.kdl.specs.Fields.{held_nodes, name_of}
use Rattle.kdl.specs.Iterators.{child_nodes}
use Rattle.kdl.specs.Lookups.{entries_of, entry_there, with_value_there}
use Rattle.kdl.specs.declared.document.KdlDocument.{KdlDocument}
use Rattle.kdl.specs.declared.node.KdlNode.{KdlNode}

-- the node has that name
abbrev pub is_node_named : List ℕ → KdlNode → Bool
is_node_named s n = same_text (string_bytes (string_of (name_of n))) s

-- the nodes of a document
abbrev pub nodes_of : KdlDocument → List KdlNode
nodes_of d = (held_nodes d).items

-- the first node of that name
abbrev pub node_named : List ℕ → KdlDocument → Option KdlNode
node_named s d = find (is_node_named s) (nodes_of d)

-- the place of the first node of that name
abbrev pub node_place : List ℕ → KdlDocument → Option ℕ
node_place s d = position (is_node_named s) (nodes_of d)

-- the document with the node at a place that was found replaced, and all else unchanged
abbrev pub with_node_there : Option ℕ → KdlDocument → KdlNode → KdlDocument
with_node_there None d n = d
with_node_there (Some i) d n = with_node d i n

-- the same for the first node of that name
abbrev pub with_node_named : List ℕ → KdlDocument → KdlNode → KdlDocument
with_node_named s d n = with_node_there (node_place s d) d n

-- the place of the first argument among the entries
abbrev pub argument_place : KdlNode → Option ℕ
argument_place n = nth_place is_argument (entries_of n) 0

-- the first argument
abbrev pub first_argument : KdlNode → Option KdlEntry
first_argument n = entry_there (argument_place n) n

-- the value of the first argument
abbrev pub argument_value : KdlNode → Option Value
argument_value n = option_map (λ e. value_tree (entry_value_of e)) (first_argument n)

-- the first argument of the first node of that name
abbrev pub argument_named : List ℕ → KdlDocument → Option KdlEntry
argument_named s d = option_and_then first_argument (node_named s d)

-- the document with the value of the first argument replaced, in the node at a place that was found; all else is unchanged
abbrev pub with_argument_in : KdlDocument → ℕ → Option KdlNode → KdlValue → KdlDocument
with_argument_in d i None w = d
with_argument_in d i (Some n) w = with_node d i (with_value_there (argument_place n) n w)

abbrev pub with_argument_there : Option ℕ → KdlDocument → KdlValue → KdlDocument
with_argument_there None d w = d
with_argument_there (Some i) d w = with_argument_in d i (slice_get (nodes_of d) i) w

-- the same for the first node of that name
abbrev pub with_argument_named : List ℕ → KdlDocument → KdlValue → KdlDocument
with_argument_named s d w = with_argument_there (node_place s d) d w

-- the values of the arguments of a node, or none if there is no node
abbrev pub arguments_of : Option KdlNode → List Value
arguments_of None = []
arguments_of (Some n) = arguments (entries_of n)

-- the value of the first argument of each node named `-` that has one, in order
abbrev pub dash_arguments : List KdlNode → List Value
dash_arguments ns = filter_map argument_value (filter (is_node_named (codes "-")) ns)

-- the same among the children of a node, or none if there is no node
abbrev pub dash_arguments_of : Option KdlNode → List Value
dash_arguments_of None = []
dash_arguments_of (Some n) = dash_arguments (child_nodes n)
