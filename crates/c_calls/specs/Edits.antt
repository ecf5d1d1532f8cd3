-- The result of each edit of a node, of an entry, or of a document.
use Rattle.std.specs.List.{insert, remove}
use Rattle.std.specs.Prelude.{◌≡◌, ◌<◌, ◌≤◌, ◌-◌, ◌^◌, ℕ, zero, suc, List, [], ◌∷◌, Option, None, Some, IfSome, length, option_map, slice_get}
use Rattle.kdl.specs.Words.{ChildPut, Entry, EntryFormat, IsPut, PrintsPut, PrintsWithout, Text, Value, cleared, plain_identifier, said_with, said_without}
use Rattle.kdl.specs.Words.{LaidEntryText, LaidNodeText, document_says, entry_tree, identifier_tree, node_says, node_tree}
use Rattle.kdl.specs.Words.{block_of, child_nodes, entries_of, held_entries, held_nodes, nodes_of, with_children, with_entries, with_name, with_nodes, with_ty}
use Rattle.kdl.specs.declared.document.KdlDocument.{KdlDocument}
use Rattle.kdl.specs.declared.node.KdlNode.{KdlNode}
use Rattle.kdl_entry.specs.declared.entry.KdlEntry.{KdlEntry}
use Rattle.kdl_entry.specs.declared.identifier.KdlIdentifier.{KdlIdentifier}
use Rattle.c_calls.specs.Changes.{AtEntry, AtNode}
use Rattle.c_calls.specs.Entries.{IsValueText}
use Rattle.c_calls.specs.Paths.{node_at}

-- the text if the flag is not 0, else none
abbrev pub text_if : ℕ → Text → Option Text
text_if zero t = None
text_if (suc _) t = Some t

-- f is e with the value that the text t is, and, if e has a format, with t as the spelling of the value
pub record ValueSet (t : Text) (e f : Entry) : Type 0 where
  pub value : Value
  pub given : IsValueText t value
  pub is : f ≡ record e { value = value; format = option_map (λ (g : EntryFormat). record g { value_repr = t }) e.format }

-- f is e with that key, in the library's spelling, or without a key
abbrev pub KeySet : Option Text → Entry → Entry → Type 0
KeySet o e f = f ≡ record e { name = option_map plain_identifier o }

-- f is e with that type, in the library's spelling, or without a type
abbrev pub TypeSet : Option Text → Entry → Entry → Type 0
TypeSet o e f = f ≡ record e { ty = option_map plain_identifier o }

-- m is n with the entry of the text t, without its format and spellings, before the entry at i, or after the last one
pub record EntryInserted (t : Text) (i : ℕ) (n m : KdlNode) : Type 0 where
  pub given : Entry
  pub laid : LaidEntryText t given
  pub entry : KdlEntry
  pub is : entry_tree entry ≡ cleared given
  pub place : i ≤ length (entries_of n)
  pub entries : entries_of m ≡ insert (entries_of n) i entry
  pub rest : m ≡ with_entries n (held_entries m)

-- m is n with that name, in the library's spelling
abbrev pub NodeNamed : Text → KdlNode → KdlNode → Type 0
NodeNamed t n m = (w : KdlIdentifier) × (identifier_tree w ≡ plain_identifier t) × (m ≡ with_name n w)

-- m is n with that type, in the library's spelling, or without a type
abbrev pub NodeTyped : Option Text → KdlNode → KdlNode → Type 0
NodeTyped o n m = (w : Option KdlIdentifier) × (option_map identifier_tree w ≡ option_map plain_identifier o) × (m ≡ with_ty n w)

-- the type of the entry at i is set, or the type of the node if i is the greatest index, 2 ^ 64 - 1
abbrev pub TypeSetAt : ℕ → Option Text → KdlNode → KdlNode → Type 0
TypeSetAt i o n m = (i ≡ 2 ^ 64 - 1 → NodeTyped o n m) × ((i ≡ 2 ^ 64 - 1 → ⊥) → AtEntry i (TypeSet o) n m)

-- m is n with the node of the text t in its block, before the node at i, or after the last one; if n has no block, m
-- has a new one
abbrev pub ChildInserted : Text → ℕ → KdlNode → KdlNode → Type 0
ChildInserted t i n m = (x : KdlNode) × LaidNodeText t (node_tree x) × ChildPut i x n m

-- m is n without the node at i in its block
pub record ChildRemoved (i : ℕ) (n m : KdlNode) : Type 0 where
  pub old : KdlDocument
  pub new : KdlDocument
  pub block : block_of n ≡ Some old
  pub place : i < length (nodes_of old)
  pub nodes : nodes_of new ≡ remove (nodes_of old) i
  pub around : new ≡ with_nodes old (held_nodes new)
  pub rest : m ≡ with_children n (Some new)

-- e is d with the node of the text t before the node at i, or after the last one
pub record FirstInserted (t : Text) (i : ℕ) (d e : KdlDocument) : Type 0 where
  pub given : KdlNode
  pub laid : LaidNodeText t (node_tree given)
  pub put : IsPut i (node_tree given) d e
  pub prints : PrintsPut i given d e
  pub says : document_says e ≡ said_with i (node_says given) (document_says d)

-- e is d without the node at i
pub record FirstRemoved (i : ℕ) (d e : KdlDocument) : Type 0 where
  pub taken : KdlNode
  pub there : slice_get (nodes_of d) i ≡ Some taken
  pub nodes : nodes_of e ≡ remove (nodes_of d) i
  pub rest : e ≡ with_nodes d (held_nodes e)
  pub prints : PrintsWithout i taken d e
  pub says : document_says e ≡ said_without i (document_says d)

-- there is no node at the path, or its block has no node at i; for the empty path, the document has none
abbrev pub NodeAbsent : List ℕ → ℕ → KdlDocument → Type 0
NodeAbsent [] i d = length (nodes_of d) ≤ i
NodeAbsent (j ∷ js) i d = IfSome (node_at (j ∷ js) (nodes_of d)) (λ n. length (child_nodes n) ≤ i)

-- there is no node at the path, or its block has fewer than i nodes; for the empty path, the document has fewer
abbrev pub NoPlaceFor : List ℕ → ℕ → KdlDocument → Type 0
NoPlaceFor [] i d = length (nodes_of d) < i
NoPlaceFor (j ∷ js) i d = IfSome (node_at (j ∷ js) (nodes_of d)) (λ n. length (child_nodes n) < i)

-- e is d with the node of the text t in the block of the node at the path, or in the document if the path is empty
abbrev pub NodeInserted : List ℕ → Text → ℕ → KdlDocument → KdlDocument → Type 0
NodeInserted [] t i d e = FirstInserted t i d e
NodeInserted (j ∷ js) t i d e = AtNode (j ∷ js) (ChildInserted t i) d e

-- e is d without the node at i in the block of the node at the path, or in the document if the path is empty
abbrev pub NodeRemoved : List ℕ → ℕ → KdlDocument → KdlDocument → Type 0
NodeRemoved [] i d e = FirstRemoved i d e
NodeRemoved (j ∷ js) i d e = AtNode (j ∷ js) (ChildRemoved i) d e
