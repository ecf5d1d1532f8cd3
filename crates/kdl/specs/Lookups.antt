-- What look-ups in a node return, and the node after a write through the references that they return.
use Rattle.std.specs.Prelude.{◌≡◌, ℕ, List, Option, Some, None, option_map}
use Rattle.kdl_value.specs.Data.{Value}
use Rattle.kdl_value.specs.Tree.{value_tree}
use Rattle.kdl_entry.specs.Fields.{entry_value_of}
use Rattle.kdl_entry.specs.declared.entry.KdlEntry.{KdlEntry}
use Rattle.kdl_value.specs.declared.value.KdlValue.{KdlValue}
use Rattle.kdl.specs.Change.{with_entries, with_value}
use Rattle.kdl.specs.Fields.{held_entries}
pub use Rattle.kdl_parts.specs.EntryLists.{held_value, value_of}
use Rattle.kdl_parts.specs.EntryLists.{place_of, last_place, has_name, there}
use Rattle.kdl_parts.specs.Written.{set_entry_there, set_value_there, IsPushed}
use Rattle.kdl_parts.specs.declared.key.NodeKey.{NodeKey}
use Rattle.kdl.specs.declared.node.KdlNode.{KdlNode}

-- the entries of a node
abbrev pub entries_of : KdlNode → List KdlEntry
entries_of n = (held_entries n).items

-- the place of the last property of that name
abbrev pub property_place : List ℕ → KdlNode → Option ℕ
property_place s n = last_place (has_name s) (entries_of n)

-- the place of the entry that a key finds
abbrev pub key_place : NodeKey → KdlNode → Option ℕ
key_place k n = place_of k (entries_of n)

-- the entry at a place that was found
abbrev pub entry_there : Option ℕ → KdlNode → Option KdlEntry
entry_there place n = there place (entries_of n)

-- the value of the entry at a place that was found
abbrev pub value_there : Option ℕ → KdlNode → Option Value
value_there place n = option_map (λ e. value_tree (entry_value_of e)) (entry_there place n)

-- the entry that a key finds, and its value
abbrev pub found_entry : NodeKey → KdlNode → Option KdlEntry
found_entry k n = entry_there (key_place k n) n

abbrev pub found_value : NodeKey → KdlNode → Option Value
found_value k n = value_there (key_place k n) n

-- the value of the last property of that name
abbrev pub property_value : List ℕ → KdlNode → Option Value
property_value s n = value_there (property_place s n) n

-- the node with the entry at a place that was found replaced, and all else unchanged
abbrev pub with_entry_there : Option ℕ → KdlNode → KdlEntry → KdlNode
with_entry_there place n e = with_entries n (set_entry_there place (held_entries n) e)

-- the node with the value of the entry at a place that was found replaced, and all else unchanged
abbrev pub with_value_there : Option ℕ → KdlNode → KdlValue → KdlNode
with_value_there place n w = with_entries n (set_value_there place (held_entries n) w)

-- the same for the entry that a key finds
abbrev pub with_found_entry : NodeKey → KdlNode → KdlEntry → KdlNode
with_found_entry k n e = with_entry_there (key_place k n) n e

abbrev pub with_found_value : NodeKey → KdlNode → KdlValue → KdlNode
with_found_value k n w = with_value_there (key_place k n) n w

-- m is n with a property of that name and value after its entries, and all else unchanged
pub record HasPushed (s : List ℕ) (w : Value) (n m : KdlNode) : Type 0 where
  pub entries : IsPushed s w (entries_of n) (entries_of m)
  pub rest : m ≡ with_entries n (held_entries m)

-- m is n with the same entries, and all else unchanged
pub record HasSameEntries (n m : KdlNode) : Type 0 where
  pub items : entries_of m ≡ entries_of n
  pub rest : m ≡ with_entries n (held_entries m)

-- m is n with w as the value of the property at the place that was found, or else with a property of that name and value pushed; all else is unchanged
abbrev pub HasWritten : Option ℕ → List ℕ → KdlNode → KdlValue → KdlNode → Type 0
HasWritten None s n w m = HasPushed s (value_tree w) n m
HasWritten (Some i) s n w m = m ≡ with_value n i w
