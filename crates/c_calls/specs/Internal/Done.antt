-- A node after a change.
use Rattle.std.specs.List.{insert}
use Rattle.std.specs.Prelude.{◌≡◌, ◌≤◌, ◌<◌, ℕ, [], ◌∷◌, Some, length, option_map, slice_get}
use Rattle.kdl.specs.Words.{ChildPut, Entry, IsPut, PrintsPut, document_says, node_says, said_with, document_tree, identifier_tree, node_tree, value_tree}
use Rattle.kdl.specs.Words.{child_nodes, entries_of, held_entries, nodes_of, with_entries, with_name, with_ty}
use Rattle.kdl.specs.declared.document.KdlDocument.{KdlDocument}
use Rattle.kdl.specs.declared.node.KdlNode.{KdlNode}
use Rattle.kdl_entry.specs.declared.entry.KdlEntry.{KdlEntry}
use Rattle.c_calls.specs.Changes.{AtEntry, changed_at}
use Rattle.c_calls.specs.Entries.{EntryRemoved, respelled}
use Rattle.c_calls.specs.Edits.{ChildRemoved}
use Rattle.c_calls.specs.declared.entry_change.EntryChange.{EntryChange}
use Rattle.c_calls.specs.declared.entry_change.EntryChange.TheVariants as change
use Rattle.c_calls.specs.declared.node_change.NodeChange.{NodeChange}
use Rattle.c_calls.specs.declared.node_change.NodeChange.TheVariants.{SetName, SetType, ChangeEntry, InsertEntry, RemoveEntry, InsertChild, RemoveChild}

-- the entry after the change
abbrev pub changed_entry : EntryChange → Entry → Entry
changed_entry (change.SetKey o) e = record e { name = option_map identifier_tree o }
changed_entry (change.SetType o) e = record e { ty = option_map identifier_tree o }
changed_entry (change.SetValue v s) e = record e { value = value_tree v; format = option_map (respelled s) e.format }

-- m is n with the entry e before the one at i, or after the last one
pub record EntryPut (i : ℕ) (e : KdlEntry) (n m : KdlNode) : Type 0 where
  pub place : i ≤ length (entries_of n)
  pub entries : entries_of m ≡ insert (entries_of n) i e
  pub rest : m ≡ with_entries n (held_entries m)

-- the index of the change is too large for n; a change of the name or the type has no index
abbrev pub Lacks : NodeChange → KdlNode → Type 0
Lacks (SetName w) n = ⊥
Lacks (SetType w) n = ⊥
Lacks (ChangeEntry i c) n = length (entries_of n) ≤ i
Lacks (InsertEntry i e) n = length (entries_of n) < i
Lacks (RemoveEntry i) n = length (entries_of n) ≤ i
Lacks (InsertChild i x) n = length (child_nodes n) < i
Lacks (RemoveChild i) n = length (child_nodes n) ≤ i

-- m is n after the change
abbrev pub IsDone : NodeChange → KdlNode → KdlNode → Type 0
IsDone (SetName w) n m = m ≡ with_name n w
IsDone (SetType w) n m = m ≡ with_ty n w
IsDone (ChangeEntry i c) n m = AtEntry i (λ e f. f ≡ changed_entry c e) n m
IsDone (InsertEntry i e) n m = EntryPut i e n m
IsDone (RemoveEntry i) n m = EntryRemoved i n m
IsDone (InsertChild i x) n m = ChildPut i x n m
IsDone (RemoveChild i) n m = ChildRemoved i n m

-- e is d after the change to the node at i
pub record IsDoneIn (i : ℕ) (c : NodeChange) (d e : KdlDocument) : Type 0 where
  pub old : KdlNode
  pub new : KdlNode
  pub there : slice_get (nodes_of d) i ≡ Some old
  pub done : IsDone c old new
  pub rest : document_tree e ≡ changed_at (i ∷ []) (λ _. node_tree new) (document_tree d)

-- e is d with the node n before the one at i, or after the last one
pub record NodePut (i : ℕ) (n : KdlNode) (d e : KdlDocument) : Type 0 where
  pub put : IsPut i (node_tree n) d e
  pub prints : PrintsPut i n d e
  pub says : document_says e ≡ said_with i (node_says n) (document_says d)
