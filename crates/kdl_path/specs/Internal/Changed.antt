-- A node after a change.
use Rattle.std.specs.List.{remove}
use Rattle.std.specs.Prelude.{◌≡◌, ◌<◌, ℕ, [], ◌∷◌, Option, Some, None, length, slice_get}
use Rattle.kdl.specs.Words.{Entry, EntryFormat, EntryReadsBack, NodeReadsBack, ReadsAs, Text, Value, block_of, document_tree, empty_format, entries_of, entry_data, entry_tree, held_nodes, node_says, node_tree, nodes_of, value_tree, with_children, with_nodes}
use Rattle.kdl.specs.Lookups.{with_entry_there}
use Rattle.kdl.specs.declared.document.KdlDocument.{KdlDocument}
use Rattle.kdl.specs.declared.node.KdlNode.{KdlNode}
use Rattle.c_calls.specs.Changes.{changed_at}
use Rattle.c_calls.specs.Entries.{EntryRemoved}
use Rattle.kdl_entry.specs.declared.entry.KdlEntry.{KdlEntry}
use Rattle.kdl_value.specs.Tree.{text_of}
use Rattle.kdl_path.specs.Edits.{node_with_child, node_with_entry}
use Rattle.kdl_path.specs.Internal.Laid.{IsBlockLaid}
use Rattle.kdl_path.specs.declared.change.Change.{Change}
use Rattle.kdl_path.specs.declared.change.Change.TheVariants.{SetValue, PushEntry, RemoveEntry, PushChild, RemoveChild}

-- a format, or that of what an entry without one prints
abbrev pub spaced_format : Option EntryFormat → EntryFormat
spaced_format None = record empty_format { leading = 32 ∷ [] }
spaced_format (Some f) = f

-- an entry with a format
abbrev pub with_format : Entry → Entry
with_format e = record e { format = Some (spaced_format e.format) }

-- an entry with another value in a spelling
abbrev pub with_spelled : Value → Text → Entry → Entry
with_spelled v t e = record e { value = v; format = Some (record (spaced_format e.format) { value_repr = t }) }

-- m is n with the value of the entry at a place set, in its spelling
pub record IsValueSet (at : ℕ) (v : Value) (t : Text) (n m : KdlNode) : Type 0 where
  pub old : KdlEntry
  pub new : KdlEntry
  pub there : slice_get (entries_of n) at ≡ Some old
  pub tree : entry_tree new ≡ with_spelled v t (entry_tree old)
  pub rest : m ≡ with_entry_there (Some at) n new

-- m reads back as n does if the entry e reads back, and its data are those of n with those of e after its entries
pub record IsEntryPushed (e : KdlEntry) (n m : KdlNode) : Type 0 where
  pub says : node_says m ≡ node_with_entry (entry_data (entry_tree e)) (node_says n)
  pub reads : EntryReadsBack e → ReadsAs n m

-- m reads back as n does if the node c reads back, and its data are those of n with those of c last in its block
pub record IsChildPushed (c n m : KdlNode) : Type 0 where
  pub says : node_says m ≡ node_with_child (node_says c) (node_says n)
  pub reads : NodeReadsBack c → ReadsAs n m

-- e is d without the node at a place
pub record IsTakenFrom (at : ℕ) (d e : KdlDocument) : Type 0 where
  pub place : at < length (nodes_of d)
  pub nodes : nodes_of e ≡ remove (nodes_of d) at
  pub around : e ≡ with_nodes d (held_nodes e)

-- e is a block as d, laid out anew, without the node at a place
pub record IsTaken (at : ℕ) (d e : KdlDocument) : Type 0 where
  pub between : KdlDocument
  pub laid : IsBlockLaid d between
  pub taken : IsTakenFrom at between e

-- m is n without the node at a place of its block
pub record IsChildRemoved (at : ℕ) (n m : KdlNode) : Type 0 where
  pub old : KdlDocument
  pub new : KdlDocument
  pub block : block_of n ≡ Some old
  pub taken : IsTaken at old new
  pub rest : m ≡ with_children n (Some new)

-- m is n after the change
abbrev pub IsMade : Change → KdlNode → KdlNode → Type 0
IsMade (SetValue at s) n m = IsValueSet at (value_tree s.value) (text_of s.spelling) n m
IsMade (PushEntry e) n m = IsEntryPushed e n m
IsMade (RemoveEntry at) n m = EntryRemoved at n m
IsMade (PushChild c) n m = IsChildPushed c n m
IsMade (RemoveChild at) n m = IsChildRemoved at n m

-- e is d after the change to the node at i
pub record IsMadeIn (i : ℕ) (c : Change) (d e : KdlDocument) : Type 0 where
  pub old : KdlNode
  pub new : KdlNode
  pub there : slice_get (nodes_of d) i ≡ Some old
  pub made : IsMade c old new
  pub rest : document_tree e ≡ changed_at (i ∷ []) (λ _. node_tree new) (document_tree d)
