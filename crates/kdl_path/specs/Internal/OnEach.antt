-- A document after an edit at each of some paths of indices.
use Rattle.std.specs.Prelude.{◌≡◌, ℕ, List, [], ◌∷◌, Contains, IsSome, Some, reverse}
use Rattle.kdl.specs.Words.{Document, Nodes, Text, Value, document_data, print_document, said_without}
use Rattle.kdl_grammar.specs.ReadsBack.{DocumentReads}
use Rattle.c_calls.specs.Entries.{IsValueText}
use Rattle.kdl_query.specs.Selects.{Path}
use Rattle.kdl_query.specs.Turns.{paths_from}
use Rattle.kdl_query.specs.declared.find.Turn.{Turn}
use Rattle.kdl_path.specs.Each.{AreExchanged, named_node, value_at}
use Rattle.kdl_path.specs.Edits.{IsExchangedAt, node_with_value, node_without_entry, with_block, with_nth}
use Rattle.kdl_path.specs.declared.path.Target.{Target}
use Rattle.kdl_path.specs.declared.path.Target.TheVariants.{Node, Argument, Property}

-- nodes after an edit of the one at a place among them
abbrev pub Edit : Type 0
Edit = ℕ → Nodes → Nodes

-- with another value for the entry that a target names in the node
abbrev pub setting : Target → Value → Edit
setting t v i x = with_nth i (node_with_value t v) x

-- without the node, or without the entry that a target names in it
abbrev pub removing : Target → Edit
removing Node i x = said_without i x
removing (Argument k) i x = with_nth i (node_without_entry (Argument k)) x
removing (Property s) i x = with_nth i (node_without_entry (Property s)) x

-- the nodes of a document after an edit of the one at a path
abbrev pub edited : Edit → Path → Nodes → Nodes
edited f [] x = x
edited f (i ∷ []) x = f i x
edited f (i ∷ j ∷ p) x = with_nth i (with_block (edited f (j ∷ p))) x

-- the same of the one at each of the paths, from the last path to the first
abbrev pub edited_each : Edit → List Path → Nodes → Nodes
edited_each f [] x = x
edited_each f (p ∷ ps) x = edited f p (edited_each f ps x)

-- the paths to which turns lead, in the order of the document; the turn that is taken first is last, and leads to the last path
abbrev pub paths_back : List Turn → List Path
paths_back ts = reverse (paths_from [] (reverse ts))

-- e reads back, and is d with another value for the entry of a target in the node at a path: in its data, and in its text, in that spelling
pub record IsSetOn (p : Path) (t : Target) (v : Value) (given : Text) (d e : Document) : Type 0 where
  pub reads : DocumentReads e
  pub says : document_data e ≡ edited (setting t v) p (document_data d)
  pub was : Text
  pub former : (w : Value) → value_at t (document_data d) p ≡ Some w → IsValueText was w
  pub bytes : IsExchangedAt (λ w. edited (setting t w) p (document_data d)) was given (print_document d 0) (print_document e 0)
  pub there : IsSome (value_at t (document_data d) p)

-- the same at each of the paths
pub record IsSetOnEach (ps : List Path) (t : Target) (v : Value) (given : Text) (d e : Document) : Type 0 where
  pub reads : DocumentReads e
  pub says : document_data e ≡ edited_each (setting t v) ps (document_data d)
  pub bytes : AreExchanged (document_data d) t v given ps (print_document d 0) (print_document e 0)
  pub there : (p : Path) → Contains ps p → IsSome (value_at t (document_data d) p)

-- e reads back, and its data are those of d without what a target names at each path, which is there
pub record IsRemovedOnEach (ps : List Path) (t : Target) (d e : Document) : Type 0 where
  pub reads : DocumentReads e
  pub says : document_data e ≡ edited_each (removing t) ps (document_data d)
  pub there : (p : Path) → Contains ps p → IsSome (named_node t (document_data d) p)
