-- A list of entries in memory, after a write through a reference to one of them.
use denote.RattleType.{RattleType}
use Rattle.std.specs.Prelude.{◌≡◌, ℕ, List, [], ◌∷◌, ◌++◌, Option, Some, None, Vec, length, slice_get}
use Rattle.std.specs.Str.{chars}
use Rattle.std.specs.Vec.{with_item}
use Rattle.std.specs.contracts.alloc.Global as global
use Rattle.std.specs.contracts.impls.GlobalAllocator.TheImpl.{ghosts}
use Rattle.std.specs.contracts.vec.Vec as vec
use Rattle.std.specs.declared.alloc.Global.{Global}
use Rattle.kdl_entry.specs.contracts.entry.KdlEntry as entry
use Rattle.kdl_entry.specs.declared.entry.KdlEntry.{KdlEntry}
use Rattle.kdl_entry.specs.Fields.{with_entry_value}
use Rattle.kdl_entry.specs.Tree.{entry_tree, plain_entry, plain_identifier}
use Rattle.kdl_value.specs.Data.{Value, null}
use Rattle.kdl_value.specs.declared.value.KdlValue.{KdlValue}
use Rattle.kdl_parts.specs.EntryLists.{is_argument, nth_place, place_of}
use Rattle.kdl_parts.specs.declared.key.NodeKey.{NodeKey}

-- the type of a list of entries in the logic
abbrev pub entries_row : RattleType
entries_row = vec.the_row entry.the_row global.the_row ghosts

-- the entries with another one at the place that was found
abbrev pub set_entry_there : Option ℕ → Vec KdlEntry Global → KdlEntry → Vec KdlEntry Global
set_entry_there None v e = v
set_entry_there (Some i) v e = with_item v i e

-- the entries with another value for the one at i
abbrev pub set_value_at : Vec KdlEntry Global → ℕ → KdlValue → Vec KdlEntry Global
set_value_at v i w = elim (slice_get v.items i) [ None ↦ v | Some e ↦ with_item v i (with_entry_value e w) ]

-- the entries with another value for the one at the place that was found
abbrev pub set_value_there : Option ℕ → Vec KdlEntry Global → KdlValue → Vec KdlEntry Global
set_value_there None v w = v
set_value_there (Some i) v w = set_value_at v i w

-- the entries with another one in place of the one that a key finds, and with another value for it
abbrev pub with_found : NodeKey → Vec KdlEntry Global → KdlEntry → Vec KdlEntry Global
with_found key v e = set_entry_there (place_of key v.items) v e

abbrev pub with_found_value : NodeKey → Vec KdlEntry Global → KdlValue → Vec KdlEntry Global
with_found_value key v w = set_value_there (place_of key v.items) v w

-- the entries with another value for the argument at that place among the arguments
abbrev pub with_argument_value : ℕ → Vec KdlEntry Global → KdlValue → Vec KdlEntry Global
with_argument_value n v w = set_value_there (nth_place is_argument v.items n) v w

-- fs are the entries es, followed by a property of that name and value
pub record IsPushed (s : List ℕ) (w : Value) (es fs : List KdlEntry) : Type 0 where
  pub entry : KdlEntry
  pub tree : entry_tree entry ≡ plain_entry (Some (plain_identifier (chars s))) w
  pub items : fs ≡ es ++ (entry ∷ [])

-- the entries fs are es with the property at the place that was found, or else with a null property of that name pushed; i is its place
abbrev pub HasProperty : Option ℕ → List ℕ → Vec KdlEntry Global → ℕ → Vec KdlEntry Global → Type 0
HasProperty None s es i fs = (i ≡ length es.items) × IsPushed s null es.items fs.items
HasProperty (Some k) s es i fs = (i ≡ k) × (fs ≡ es)
