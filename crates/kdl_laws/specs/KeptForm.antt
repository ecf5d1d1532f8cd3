-- Whether the entries of a document read back in the form that they keep.
use Rattle.std.specs.Prelude.{◌≡◌, true, false, [], ◌∷◌, None, Some}
use Rattle.kdl_entry.specs.Tree.{Entry, empty_format, no_span}
use Rattle.kdl_layout.specs.Config.{Settings, defaults}
use Rattle.kdl_layout.specs.Formatted.{DocumentKeepsNone, NodeKeepsNone}
use Rattle.kdl_layout.specs.KeptForm.{DocumentKeepsReading, NodeKeepsReading}
use Rattle.kdl_grammar.specs.Tree.{Document, document, Head, Node, node, no_children, first, none}
use Rattle.kdl_value.specs.Data.{null}

-- each entry does if none is flagged
abbrev pub UnflaggedKeepReading : Type 0
UnflaggedKeepReading =
    ((s : Settings) (d : Document) → s.entry_autoformate_keep ≡ false → DocumentKeepsNone d → DocumentKeepsReading s d)
    × ((s : Settings) (n : Node) → s.entry_autoformate_keep ≡ false → NodeKeepsNone n → NodeKeepsReading s n)

-- an entry that keeps a form of empty texts, and prints nothing
abbrev pub empty_form : Entry
empty_form = record { ty = None; value = null; name = None; format = Some (record empty_format { autoformat_keep = true }); span = no_span }

-- a document with that entry alone does not
abbrev pub EmptyFormFails : Type 0
EmptyFormFails = (h : Head) → h.entries ≡ empty_form ∷ [] → DocumentKeepsReading defaults (document None no_span (first (node h no_children) none)) → ⊥
