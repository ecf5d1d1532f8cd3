-- What a PATH names in the data of a document.
use Rattle.std.specs.List.{filter, filter_map, flat_map}
use Rattle.std.specs.Option.{option_to_list}
use Rattle.std.specs.Prelude.{◌≡◌, ℕ, List, [], ◌∷◌, Option, Some, None, IsSomeAnd, option_and_then, slice_get, unwrap_or}
use Rattle.kdl.specs.Words.{EntryData, NodeData, Nodes, Value, said_argument, said_child_nodes, said_nodes, said_property}
use Rattle.kdl.specs.Said.{is_called, last_property, nth_argument}
use Rattle.kdl_parts.specs.EntryLists.{nth_place, there}
use Rattle.kdl_value.specs.Tree.{text_of}
use Rattle.kdl_path.specs.declared.path.Path.{Path}
use Rattle.kdl_path.specs.declared.path.Step.{Step}
use Rattle.kdl_path.specs.declared.path.Target.{Target}
use Rattle.kdl_path.specs.declared.path.Target.TheVariants.{Node, Argument, Property}

-- the place of the node that a step names: the one at its index among the nodes of its name, or the first of them
abbrev pub step_place : Step → List NodeData → Option ℕ
step_place s xs = nth_place (is_called (text_of s.name)) xs (unwrap_or s.index 0)

-- the node that a step names
abbrev pub step_node : Step → List NodeData → Option NodeData
step_node s xs = there (step_place s xs) xs

-- the node to which steps lead from a node, through the blocks
abbrev pub node_below : List Step → NodeData → Option NodeData
node_below [] x = Some x
node_below (s ∷ ss) x = option_and_then (node_below ss) (step_node s (said_child_nodes x))

-- the node to which they lead from the nodes of a document; no steps lead to no node
abbrev pub node_at : List Step → List NodeData → Option NodeData
node_at [] xs = None
node_at (s ∷ ss) xs = option_and_then (node_below ss) (step_node s xs)

-- the indices lead where the steps do: each is the place of the node that its step names
abbrev pub AreIndices : List Step → List ℕ → List NodeData → Type 0
AreIndices [] [] xs = Unit {0}
AreIndices [] (i ∷ is) xs = ⊥
AreIndices (s ∷ ss) [] xs = ⊥
AreIndices (s ∷ ss) (i ∷ is) xs = (step_place s xs ≡ Some i) × IsSomeAnd (slice_get xs i) (λ x. AreIndices ss is (said_child_nodes x))

-- the entry that a target names in a node: argument 0 for the node itself
abbrev pub entry_in : Target → NodeData → Option EntryData
entry_in Node x = nth_argument 0 x
entry_in (Argument i) x = nth_argument i x
entry_in (Property s) x = last_property (text_of s) x

-- the entry at a PATH
abbrev pub entry_at : Path → Nodes → Option EntryData
entry_at p x = option_and_then (entry_in p.target) (node_at p.steps.items (said_nodes x))

-- the value that a target names in a node: argument 0 for the node itself
abbrev pub value_in : Target → NodeData → Option Value
value_in Node x = said_argument 0 x
value_in (Argument i) x = said_argument i x
value_in (Property s) x = said_property (text_of s) x

-- the value at a PATH
abbrev pub at_path : Path → Nodes → Option Value
at_path p x = option_and_then (value_in p.target) (node_at p.steps.items (said_nodes x))

-- the nodes that a step leads to if every value is asked for: the one at its index, or without an index each of its name
abbrev pub nodes_named : Option ℕ → Step → List NodeData → List NodeData
nodes_named None s xs = filter (is_called (text_of s.name)) xs
nodes_named (Some i) s xs = option_to_list (step_node s xs)

-- the nodes to which steps lead from a node, through the blocks
abbrev pub nodes_below : List Step → NodeData → List NodeData
nodes_below [] x = x ∷ []
nodes_below (s ∷ ss) x = flat_map (nodes_below ss) (nodes_named s.index s (said_child_nodes x))

-- the nodes to which they lead from the nodes of a document; no steps lead to no node
abbrev pub nodes_at : List Step → List NodeData → List NodeData
nodes_at [] xs = []
nodes_at (s ∷ ss) xs = flat_map (nodes_below ss) (nodes_named s.index s xs)

-- the values at a PATH: that of each node to which it leads, in the order of the document
abbrev pub all_at : Path → Nodes → List Value
all_at p x = filter_map (value_in p.target) (nodes_at p.steps.items (said_nodes x))
