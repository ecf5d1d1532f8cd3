-- What look-ups find in data: in the data of a document or a node, whatever its form.
use Rattle.std.specs.List.{filter, filter_map, find, last_or}
use Rattle.std.specs.Option.{option_map_or}
use Rattle.std.specs.Prelude.{◌≡◌, ℕ, Bool, false, List, [], ◌∷◌, Option, Some, None, codes, is_none, map, option_and_then, option_map, slice_get, unwrap_or}
use Rattle.kdl_text.specs.Chars.{Text}
use Rattle.kdl_value.specs.Data.{Value}
use Rattle.kdl_entry.specs.Data.{Entry}
use Rattle.kdl_grammar.specs.Data.{Node, node, Children, no_children, children, Nodes, none, first}
use Rattle.kdl_parts.specs.EntryLists.{Sought, property, argument, same_text}

-- the type of a node, its name, its entries and what is in its block
abbrev pub said_type : Node → Option Text
said_type (node ty name es k) = ty

abbrev pub said_name : Node → Text
said_name (node ty name es k) = name

abbrev pub said_entries : Node → List Entry
said_entries (node ty name es k) = es

abbrev pub nodes_inside : Children → Option Nodes
nodes_inside no_children = None
nodes_inside (children x) = Some x

abbrev pub said_children : Node → Option Nodes
said_children (node ty name es k) = nodes_inside k

-- the nodes, as a list
abbrev pub said_nodes : Nodes → List Node
said_nodes none = []
said_nodes (first n x) = n ∷ said_nodes x

-- the nodes in the block of a node, or none without a block
abbrev pub said_child_nodes : Node → List Node
said_child_nodes n = unwrap_or (option_map said_nodes (said_children n)) []

-- the entry is a property of that name; it is an argument
abbrev pub has_key : Text → Entry → Bool
has_key s e = option_map_or (λ k. same_text k s) e.key false

abbrev pub has_no_key : Entry → Bool
has_no_key e = is_none e.key

-- the last property of that name, and the argument at that place among the arguments, counted from 0
abbrev pub last_property : Text → Node → Option Entry
last_property s n = last_or None (filter (has_key s) (said_entries n))

abbrev pub nth_argument : ℕ → Node → Option Entry
nth_argument i n = slice_get (filter has_no_key (said_entries n)) i

-- the entry that a key looks for
abbrev pub said_entry : Sought → Node → Option Entry
said_entry (property k) n = last_property k.value n
said_entry (argument i) n = nth_argument i n

-- the value of that property, of that argument, and of the entry that a key looks for
abbrev pub said_property : Text → Node → Option Value
said_property s n = option_map (λ e. e.value) (last_property s n)

abbrev pub said_argument : ℕ → Node → Option Value
said_argument i n = option_map (λ e. e.value) (nth_argument i n)

abbrev pub said_value : Sought → Node → Option Value
said_value k n = option_map (λ e. e.value) (said_entry k n)

-- the values of all arguments, in order
abbrev pub said_arguments : Node → List Value
said_arguments n = map (λ e. e.value) (filter has_no_key (said_entries n))

-- the node has that name, and the first node that has it
abbrev pub is_called : Text → Node → Bool
is_called s n = same_text (said_name n) s

abbrev pub said_node : Text → Nodes → Option Node
said_node s x = find (is_called s) (said_nodes x)

-- the value of its first argument, the values of all its arguments
abbrev pub said_arg : Text → Nodes → Option Value
said_arg s x = option_and_then (said_argument 0) (said_node s x)

abbrev pub said_args : Text → Nodes → List Value
said_args s x = unwrap_or (option_map said_arguments (said_node s x)) []

-- the value of the first argument of each node named `-` in its block that has one
abbrev pub said_dashes : Node → List Value
said_dashes n = filter_map (said_argument 0) (filter (is_called (codes "-")) (said_child_nodes n))

abbrev pub said_dash_args : Text → Nodes → List Value
said_dash_args s x = unwrap_or (option_map said_dashes (said_node s x)) []

-- the value of the last property r, and of the argument at that place, of the first node s
abbrev pub said_property_in : Text → Text → Nodes → Option Value
said_property_in s r x = option_and_then (said_property r) (said_node s x)

abbrev pub said_argument_in : Text → ℕ → Nodes → Option Value
said_argument_in s i x = option_and_then (said_argument i) (said_node s x)

-- y is x, except for the property r of the first node s, which has the value v
pub record IsSetInData (s r : Text) (v : Value) (x y : Nodes) : Type 0 where
  pub found : said_property_in s r y ≡ Some v
  pub others : (q : Text) → (r ≡ q → ⊥) → said_property_in s q y ≡ said_property_in s q x
  pub arguments : (i : ℕ) → said_argument_in s i y ≡ said_argument_in s i x
  pub ty : option_and_then said_type (said_node s y) ≡ option_and_then said_type (said_node s x)
  pub children : option_and_then said_children (said_node s y) ≡ option_and_then said_children (said_node s x)
  pub nodes : (q : Text) → (s ≡ q → ⊥) → said_node q y ≡ said_node q x
