-- What failures mean, and when an edit at a PATH fails.
use Rattle.std.specs.List.{list_all}
use Rattle.std.specs.Prelude.{◌≡◌, ◌==◌, ◌&&◌, ℕ, zero, suc, Bool, true, false, List, [], ◌∷◌, Option, Some, None, is_some, unwrap_or}
use Rattle.std.specs.Str.{chars}
use Rattle.kdl.specs.Words.{EntryData, IsDocument, IsNodeText, NodeData, Nodes, Tells, Text, Value, said_child_nodes, said_entries, said_nodes}
use Rattle.kdl.specs.Said.{has_no_key, is_called}
use Rattle.c_calls.specs.Entries.{IsValueText}
use Rattle.kdl_parts.specs.EntryLists.{nth_place}
use Rattle.kdl_value.specs.Tree.{text_of}
use Rattle.kdl_text.specs.declared.error.KdlError.{KdlError}
use Rattle.kdl_text.specs.declared.error.ParseFailure.{ParseFailure}
use Rattle.kdl_text.specs.declared.error.ParseFailure.TheVariants as parse
use Rattle.kdl_path.specs.Edits.{HasPlace, named_at}
use Rattle.kdl_path.specs.Paths.{at_path, step_node}
use Rattle.kdl_path.specs.declared.failure.EditFailure.{EditFailure}
use Rattle.kdl_path.specs.declared.failure.EditFailure.TheVariants as edit
use Rattle.kdl_path.specs.declared.failure.GetFailure.{GetFailure}
use Rattle.kdl_path.specs.declared.failure.GetFailure.TheVariants as get
use Rattle.kdl_path.specs.declared.path.Path.{Path}
use Rattle.kdl_path.specs.declared.path.Step.{Step}
use Rattle.kdl_path.specs.declared.path.Target.{Target}
use Rattle.kdl_path.specs.declared.path.Target.TheVariants.{Node, Argument, Property}

-- the failure of a text that is not parsed
abbrev pub edit_of : ParseFailure → EditFailure
edit_of (parse.Syntax e) = edit.Text e
edit_of parse.Memory = edit.Memory

-- no value was found
abbrev pub IsMissing : GetFailure → Type 0
IsMissing (get.Missing m) = Unit {0}
IsMissing get.Memory = ⊥

-- the index is the next one: 0, or one after an index that has a place
abbrev pub is_next : ℕ → (ℕ → Option ℕ) → Bool
is_next zero place = true
is_next (suc i) place = is_some (place i)

-- the entry that a target names, which is missing, can be made after these entries: the next argument, or a property
abbrev pub makes_entry : Target → List EntryData → Bool
makes_entry Node es = true
makes_entry (Argument i) es = is_next i (nth_place has_no_key es)
makes_entry (Property s) es = true

-- the step names the first node of its name
abbrev pub is_first : Step → Bool
is_first s = unwrap_or s.index 0 == 0

-- the node of a step, which is missing, can be made after the nodes xs, with those of the steps ss in its block
abbrev pub makes_node : Step → List Step → Target → List NodeData → Bool
makes_node s ss t xs = is_next (unwrap_or s.index 0) (nth_place (is_called (text_of s.name)) xs) && (list_all is_first ss && makes_entry t [])

-- what is missing at the end of the steps can be made: below the node of the first step, or else with that node
abbrev pub makes_on : Option NodeData → Bool → (NodeData → Bool) → Bool
makes_on None new below = new
makes_on (Some x) new below = below x

abbrev pub makes_below : List Step → Target → NodeData → Bool
makes_below [] t x = makes_entry t (said_entries x)
makes_below (s ∷ ss) t x = makes_on (step_node s (said_child_nodes x)) (makes_node s ss t (said_child_nodes x)) (makes_below ss t)

abbrev pub makes_at : List Step → Target → List NodeData → Bool
makes_at [] t xs = false
makes_at (s ∷ ss) t xs = makes_on (step_node s xs) (makes_node s ss t xs) (makes_below ss t)

-- the text is no document
abbrev pub IsNoDocument : Text → Type 0
IsNoDocument text = (x : Nodes) → IsDocument text x → ⊥

-- nothing is at the PATH, and with `create` it can't be made there
abbrev pub IsUnset : Path → Bool → Nodes → Type 0
IsUnset p create x = (at_path p x ≡ None) × (create ≡ true → makes_at p.steps.items p.target (said_nodes x) ≡ false)

-- the text, a list of bytes, is no document, and the error tells its faults
abbrev pub TextFails : List ℕ → KdlError → Type 0
TextFails text e = IsNoDocument (chars text) × Tells text e

-- `set` fails: VALUE is no value, the text is no document, or its document has no value at the PATH, and with `create` none can be made there; or memory runs out
abbrev pub SetFails : Path → List ℕ → List ℕ → Bool → EditFailure → Type 0
SetFails p given text create edit.Value = (v : Value) → IsValueText (chars given) v → ⊥
SetFails p given text create (edit.Text e) = TextFails text e
SetFails p given text create (edit.Missing m) = (x : Nodes) × IsDocument (chars text) x × IsUnset p create x
SetFails p given text create edit.Memory = Unit {0}
SetFails p given text create _ = ⊥

-- `remove` fails: the text is no document, or its document does not have what the PATH names; or memory runs out
abbrev pub RemoveFails : Path → List ℕ → EditFailure → Type 0
RemoveFails p text (edit.Text e) = TextFails text e
RemoveFails p text (edit.Missing m) = (x : Nodes) × IsDocument (chars text) x × (named_at p x ≡ None)
RemoveFails p text edit.Memory = Unit {0}
RemoveFails p text _ = ⊥

-- `insert` fails: the PATH names an argument or a property, NODE is no node, the text is no document, or its document has no node at the PATH; or memory runs out
abbrev pub InsertFails : Path → List ℕ → List ℕ → EditFailure → Type 0
InsertFails p given text edit.NotNode = p.target ≡ Node → ⊥
InsertFails p given text (edit.Node e) = (y : NodeData) → IsNodeText (chars given) y → ⊥
InsertFails p given text (edit.Text e) = TextFails text e
InsertFails p given text (edit.Missing m) = (x : Nodes) × IsDocument (chars text) x × (HasPlace p.steps.items x → ⊥)
InsertFails p given text edit.Memory = Unit {0}
InsertFails p given text _ = ⊥
