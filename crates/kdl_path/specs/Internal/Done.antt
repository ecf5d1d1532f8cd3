-- A document in which a value is set.
use Rattle.std.specs.Prelude.{◌≡◌, ℕ, List, [], ◌∷◌, Option, None, Some, option_and_then}
use Rattle.kdl.specs.Words.{DocumentReadsBack, NodeData, Text, Value, document_prints, document_says, entries_of, said_nodes}
use Rattle.kdl.specs.declared.document.KdlDocument.{KdlDocument}
use Rattle.kdl.specs.declared.node.KdlNode.{KdlNode}
use Rattle.c_calls.specs.Entries.{IsValueText}
use Rattle.kdl_entry.specs.declared.entry.KdlEntry.{KdlEntry}
use Rattle.kdl_path.specs.Edits.{IsExchangedAt, changed_at, node_with_value, with_node, without_node, without_target}
use Rattle.kdl_path.specs.Internal.Located.{Leads, place_of_target}
use Rattle.kdl_path.specs.Paths.{node_at, value_in}
use Rattle.kdl_path.specs.declared.change.Change.{Change}
use Rattle.kdl_path.specs.declared.change.Change.TheVariants.{SetValue}
use Rattle.kdl_path.specs.declared.path.Step.{Step}
use Rattle.kdl_path.specs.declared.path.Target.{Target}
use Rattle.kdl_path.specs.declared.path.Target.TheVariants.{Node}
use Rattle.kdl_path.specs.declared.value.Spelled.{Spelled}

-- e prints what d prints, with the text `given` in place of the bytes of the value of a target in the node at the end of the steps
pub record IsDoneAt (ss : List Step) (t : Target) (given : Text) (d e : KdlDocument) : Type 0 where
  pub was : Text
  pub former : (x : Value) → option_and_then (value_in t) (node_at ss (said_nodes (document_says d))) ≡ Some x → IsValueText was x
  pub bytes : IsExchangedAt (λ v. changed_at ss (node_with_value t v) (document_says d)) was given (document_prints d) (document_prints e)

-- the change sets the value of the entry that the target names
pub record SetsValue (t : Target) (s : Spelled) (es : List KdlEntry) (c : Change) : Type 0 where
  pub at : ℕ
  pub place : place_of_target t es ≡ Some at
  pub change : c ≡ SetValue at s

-- e reads back, and its data are those of d without what the target names at the end of the steps
pub record IsRemovedAt (ss : List Step) (t : Target) (d e : KdlDocument) : Type 0 where
  pub reads : DocumentReadsBack e
  pub says : document_says e ≡ without_target t ss (document_says d)

-- what a target names of a node: the node itself, or the entry at a place
abbrev pub IsNamed : Target → KdlNode → Option ℕ → Type 0
IsNamed t n None = t ≡ Node
IsNamed t n (Some i) = (t ≡ Node → ⊥) × (place_of_target t (entries_of n) ≡ Some i)

-- e reads back, and its data are those of d without the node to which the steps lead
pub record IsNodeRemoved (ss : List Step) (d e : KdlDocument) : Type 0 where
  pub reads : DocumentReadsBack e
  pub says : document_says e ≡ without_node ss (document_says d)

-- e reads back, and its data are those of d with a node at the end of the block to which the steps lead
pub record IsPutAt (ss : List Step) (y : NodeData) (d e : KdlDocument) : Type 0 where
  pub reads : DocumentReadsBack e
  pub says : document_says e ≡ with_node ss y (document_says d)

-- steps and indices lead from the nodes ns to the same node; without steps there are no indices
abbrev pub LeadsTo : List Step → List ℕ → List KdlNode → Type 0
LeadsTo [] is ns = is ≡ []
LeadsTo (s ∷ ss) is ns = (n : KdlNode) × Leads (s ∷ ss) is ns None n
