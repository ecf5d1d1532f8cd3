-- Documents, and nodes, in which look-ups find the same.
use Rattle.std.specs.Prelude.{◌≡◌, ℕ, List, Some, map, option_map}
use Rattle.std.specs.Str.{chars}
use Rattle.kdl_value.specs.Data.{Value}
use Rattle.kdl_parts.specs.EntryLists.{arguments}
use Rattle.kdl_parts.specs.declared.key.NodeKey.{NodeKey}
use Rattle.kdl_parts.specs.declared.key.NodeKey.TheVariants.{Index}
use Rattle.kdl.specs.DocumentLookups.{argument_named, arguments_of, dash_arguments_of, node_named, nodes_of}
use Rattle.kdl.specs.Iterators.{child_nodes}
use Rattle.kdl.specs.Lookups.{entries_of, found_value, property_value, value_of}
use Rattle.kdl.specs.Said.{said_argument, said_name, said_property}
use Rattle.kdl.specs.Tree.{node_says}
use Rattle.kdl.specs.declared.document.KdlDocument.{KdlDocument}
use Rattle.kdl.specs.declared.node.KdlNode.{KdlNode}

-- in e each name finds what it finds in d: a node with the same data, and the same values
pub record FindsSame (d e : KdlDocument) : Type 0 where
  pub node : (s : List ℕ) → option_map node_says (node_named s e) ≡ option_map node_says (node_named s d)
  pub argument : (s : List ℕ) → value_of (argument_named s e) ≡ value_of (argument_named s d)
  pub arguments : (s : List ℕ) → arguments_of (node_named s e) ≡ arguments_of (node_named s d)
  pub dash_arguments : (s : List ℕ) → dash_arguments_of (node_named s e) ≡ dash_arguments_of (node_named s d)
  pub nodes : map node_says (nodes_of e) ≡ map node_says (nodes_of d)

-- in m each key finds the value that it finds in n; the arguments and the name are the same, and the children have the same data
pub record NodeFindsSame (n m : KdlNode) : Type 0 where
  pub value : (key : NodeKey) → found_value key m ≡ found_value key n
  pub property : (s : List ℕ) → property_value s m ≡ property_value s n
  pub arguments : arguments (entries_of m) ≡ arguments (entries_of n)
  pub name : said_name (node_says m) ≡ said_name (node_says n)
  pub children : map node_says (child_nodes m) ≡ map node_says (child_nodes n)

-- what `node[i]` and `node[name]` return: the value that is found in the node, and in its data
pub record GivesArgument (i : ℕ) (v : Value) (n : KdlNode) : Type 0 where
  pub value : found_value (Index i) n ≡ Some v
  pub said : said_argument i (node_says n) ≡ Some v

pub record GivesProperty (s : List ℕ) (v : Value) (n : KdlNode) : Type 0 where
  pub value : property_value s n ≡ Some v
  pub said : said_property (chars s) (node_says n) ≡ Some v
