-- What look-ups find after an edit: n is the node, d the document, before it, and m or e the one after it.
use Rattle.std.specs.Prelude.{◌≡◌, ℕ, ◌+◌, ◌<◌, ◌≤◌, List, Option, Some, None}
use Rattle.std.specs.List.{count_by}
use Rattle.kdl_value.specs.Data.{Value}
use Rattle.kdl_parts.specs.EntryLists.{has_name, is_argument}
use Rattle.kdl_parts.specs.declared.key.NodeKey.TheVariants.{Index}
use Rattle.kdl.specs.DocumentLookups.{argument_named, node_named}
use Rattle.kdl.specs.Lookups.{entries_of, found_value, property_value, value_of}
use Rattle.kdl.specs.declared.node.KdlNode.{KdlNode}
use Rattle.kdl.specs.declared.document.KdlDocument.{KdlDocument}

-- how many arguments a node has, and how many properties of that name
abbrev pub argument_count : KdlNode → ℕ
argument_count n = count_by is_argument (entries_of n)

abbrev pub property_count : List ℕ → KdlNode → ℕ
property_count s n = count_by (has_name s) (entries_of n)

-- the value of the argument at that place among the arguments, counted from 0
abbrev pub value_at : ℕ → KdlNode → Option Value
value_at i n = found_value (Index i) n

-- the value of the first argument of the first node of that name
abbrev pub value_named : List ℕ → KdlDocument → Option Value
value_named s d = value_of (argument_named s d)

-- the name finds the value; what other names find, and the arguments, are unchanged
pub record IsSet (s : List ℕ) (v : Value) (n m : KdlNode) : Type 0 where
  pub found : property_value s m ≡ Some v
  pub others : (r : List ℕ) → (s ≡ r → ⊥) → property_value r m ≡ property_value r n
  pub arguments : (i : ℕ) → value_at i m ≡ value_at i n
  pub count : argument_count m ≡ argument_count n

-- the argument at i has the value; the other arguments, and what names find, are unchanged
pub record IsArgumentSet (i : ℕ) (v : Value) (n m : KdlNode) : Type 0 where
  pub found : value_at i m ≡ Some v
  pub others : (j : ℕ) → (i ≡ j → ⊥) → value_at j m ≡ value_at j n
  pub properties : (s : List ℕ) → property_value s m ≡ property_value s n
  pub count : argument_count m ≡ argument_count n

-- an argument of that value is after the others; these, and what names find, are unchanged
pub record IsAdded (v : Value) (n m : KdlNode) : Type 0 where
  pub found : value_at (argument_count n) m ≡ Some v
  pub before : (i : ℕ) → i < argument_count n → value_at i m ≡ value_at i n
  pub properties : (s : List ℕ) → property_value s m ≡ property_value s n
  pub count : argument_count m ≡ argument_count n + 1

-- an argument of that value is at i; those that were at i and after it are one place later, and what names find is unchanged
pub record IsPutIn (i : ℕ) (v : Value) (n m : KdlNode) : Type 0 where
  pub found : value_at i m ≡ Some v
  pub before : (j : ℕ) → j < i → value_at j m ≡ value_at j n
  pub later : (j : ℕ) → i ≤ j → value_at (j + 1) m ≡ value_at j n
  pub properties : (s : List ℕ) → property_value s m ≡ property_value s n
  pub count : argument_count m ≡ argument_count n + 1

-- the first property of that name is removed: if there was no other one, the name finds nothing; what other names find, and the arguments, are unchanged
pub record IsTakenOut (s : List ℕ) (n m : KdlNode) : Type 0 where
  pub missing : property_count s n ≤ 1 → property_value s m ≡ None
  pub later : 1 < property_count s n → property_value s m ≡ property_value s n
  pub others : (r : List ℕ) → (s ≡ r → ⊥) → property_value r m ≡ property_value r n
  pub arguments : (i : ℕ) → value_at i m ≡ value_at i n
  pub count : argument_count m ≡ argument_count n

-- the argument at i is removed; those after it are one place earlier, and what names find is unchanged
pub record IsTakenOutAt (i : ℕ) (n m : KdlNode) : Type 0 where
  pub before : (j : ℕ) → j < i → value_at j m ≡ value_at j n
  pub later : (j : ℕ) → i ≤ j → value_at j m ≡ value_at (j + 1) n
  pub properties : (s : List ℕ) → property_value s m ≡ property_value s n
  pub count : argument_count m + 1 ≡ argument_count n

-- the first argument of the first node of that name has the value; the nodes that other names find are unchanged
pub record IsSetIn (s : List ℕ) (v : Value) (d e : KdlDocument) : Type 0 where
  pub found : value_named s e ≡ Some v
  pub others : (r : List ℕ) → (s ≡ r → ⊥) → node_named r e ≡ node_named r d
