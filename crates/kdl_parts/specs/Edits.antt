-- What an edit of a list of entries requires, and its result.
use Rattle.std.specs.Prelude.{◌≡◌, ℕ, ◌+◌, ◌<◌, ◌≤◌, List, [], ◌∷◌, ◌++◌, take, drop, Option, Some, None, IfSome, unwrap_or}
use Rattle.std.specs.List.{count_by}
use Rattle.kdl_entry.specs.Tree.{Entry, entry_tree}
use Rattle.kdl_entry.specs.declared.entry.KdlEntry.{KdlEntry}
use Rattle.kdl_parts.specs.EntryLists.{Sought, property, argument, sought, is_argument, place_of, removed_place, there}
use Rattle.kdl_parts.specs.declared.key.NodeKey.{NodeKey}
use Rattle.kdl_parts.specs.declared.key.NodeKey.TheVariants.{Key, Index}

-- the entry may be inserted: under a name, if it has no name or one of equal value; under an index, if it has no name
abbrev pub GoesUnder : Sought → Entry → Type 0
GoesUnder (property k) e = IfSome e.name (λ i. i.value ≡ k.value)
GoesUnder (argument n) e = e.name ≡ None

-- there is a place to insert at: always under a name; under an index i, if there are at least i arguments
abbrev pub HasRoomAt : Sought → List KdlEntry → Type 0
HasRoomAt (property k) es = Unit {0}
HasRoomAt (argument n) es = n ≤ count_by is_argument es

-- if an argument is sought, there is one at that place
abbrev pub HasArgumentAt : Sought → List KdlEntry → Type 0
HasArgumentAt (property k) es = Unit {0}
HasArgumentAt (argument n) es = n < count_by is_argument es

-- the entry as it is inserted: under a name, an entry without a name gets that name
abbrev pub under : Sought → Entry → Entry
under (property k) e = record e { name = Some (unwrap_or e.name k) }
under (argument n) e = e

-- the entries with e in place of the one at i, or with e last if there is none
abbrev pub put_for : {A : Type 0} → Option ℕ → A → List A → List A
put_for None e es = es ++ (e ∷ [])
put_for (Some i) e es = take i es ++ (e ∷ drop (i + 1) es)

-- the entries with e before the one at i, or with e last if there is none
abbrev pub put_before : {A : Type 0} → Option ℕ → A → List A → List A
put_before None e es = es ++ (e ∷ [])
put_before (Some i) e es = take i es ++ (e ∷ drop i es)

-- the entries without the one at i
abbrev pub without : {A : Type 0} → Option ℕ → List A → List A
without None es = es
without (Some i) es = take i es ++ drop (i + 1) es

-- the place of the entry that an insertion replaces: the last property of that name
abbrev pub replaced_place : NodeKey → List KdlEntry → Option ℕ
replaced_place (Key k) es = place_of (Key k) es
replaced_place (Index n) es = None

-- the entry that an insertion replaces
abbrev pub replaced : NodeKey → List KdlEntry → Option KdlEntry
replaced key es = there (replaced_place key es) es

-- the entries with e inserted: in place of the last property of that name, or before that argument; last if there is none
abbrev pub inserted : NodeKey → KdlEntry → List KdlEntry → List KdlEntry
inserted (Key k) e es = put_for (place_of (Key k) es) e es
inserted (Index n) e es = put_before (place_of (Index n) es) e es

-- fs are the entries es with e inserted under the key; `entry` is e as it was inserted
pub record IsInserted (key : NodeKey) (e : KdlEntry) (es fs : List KdlEntry) : Type 0 where
  pub entry : KdlEntry
  pub tree : entry_tree entry ≡ under (sought key) (entry_tree e)
  pub items : fs ≡ inserted key entry es

-- the entry that a removal removes
abbrev pub taken_out : NodeKey → List KdlEntry → Option KdlEntry
taken_out key es = there (removed_place key es) es

-- the entries without the first property of that name, or without that argument
abbrev pub removed : NodeKey → List KdlEntry → List KdlEntry
removed key es = without (removed_place key es) es
