-- What is made for a value that is missing.
use Rattle.std.specs.Prelude.{◌≡◌, List, ◌∷◌, ◌++◌, true}
use Rattle.kdl.specs.Words.{DocumentReadsBack, EntryReadsBack, NodeData, NodeReadsBack, Value, document_says, entry_data, entry_tree, node_says, said_nodes}
use Rattle.kdl.specs.declared.document.KdlDocument.{KdlDocument}
use Rattle.kdl.specs.declared.node.KdlNode.{KdlNode}
use Rattle.kdl_entry.specs.declared.entry.KdlEntry.{KdlEntry}
use Rattle.kdl_path.specs.Edits.{made_below, new_entry, new_node, with_made}
use Rattle.kdl_path.specs.Failures.{makes_at}
use Rattle.kdl_path.specs.Internal.Located.{makes_there}
use Rattle.kdl_path.specs.declared.change.Change.{Change}
use Rattle.kdl_path.specs.declared.change.Change.TheVariants.{PushEntry}
use Rattle.kdl_path.specs.declared.path.Path.{Path}
use Rattle.kdl_path.specs.declared.path.Step.{Step}
use Rattle.kdl_path.specs.declared.path.Target.{Target}

-- the entry reads back, and with any value it is the one that is made for a target
pub record IsNullEntry (t : Target) (e : KdlEntry) : Type 0 where
  pub says : (v : Value) → entry_data (record (entry_tree e) { value = v }) ≡ new_entry t v
  pub reads : EntryReadsBack e

-- the entry reads back, and is the one that is made for a target and a value
pub record IsNewEntry (t : Target) (v : Value) (e : KdlEntry) : Type 0 where
  pub says : entry_data (entry_tree e) ≡ new_entry t v
  pub reads : EntryReadsBack e

-- the node reads back, and is the one that is made for the steps after those of `left`, with the change f in the node of the last step
pub record IsNewNode (left ss : List Step) (f : NodeData → NodeData) (n : KdlNode) : Type 0 where
  pub first : Step
  pub below : List Step
  pub steps : ss ≡ left ++ (first ∷ below)
  pub says : node_says n ≡ made_below below f (new_node first)
  pub reads : NodeReadsBack n

-- the change appends the entry that is made for a target and a value after the entries es, which can be made there
pub record PushesNew (t : Target) (v : Value) (es : List KdlEntry) (c : Change) : Type 0 where
  pub next : makes_there t es ≡ true
  pub entry : KdlEntry
  pub change : c ≡ PushEntry entry
  pub new : IsNewEntry t v entry

-- e reads back, and its data are those of d with a value made at a PATH, where it can be made
pub record IsValueMade (p : Path) (v : Value) (d e : KdlDocument) : Type 0 where
  pub next : makes_at p.steps.items p.target (said_nodes (document_says d)) ≡ true
  pub reads : DocumentReadsBack e
  pub says : document_says e ≡ with_made p v (document_says d)
