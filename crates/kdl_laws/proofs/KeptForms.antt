-- Whether the entries of a document read back in the form that they keep.
use Rattle.kdl_laws.proofs.Common.{◌≡◌, Bool, true, false, List, [], ◌∷◌, refl, subst, is_space, Entry, Node, node, Children, no_children, children, Document, document, Nodes, none, first, Settings, defaults, NodeKeepsNone, DocumentKeepsNone}
use Rattle.kdl_text.proofs.Spacing.ValueEnds.{value_end_no_identifier}
use Rattle.kdl_text.specs.Chars.{is_banned, is_identifier_char, is_newline_char, is_punctuation}
use Rattle.kdl_layout.specs.Formatted.{with_keep_if, EntriesKeepNone, ChildrenKeepNone, NodesKeepNone}
use Rattle.kdl_layout.specs.Kept.{is_kept_format}
use Rattle.kdl_layout.specs.KeptForm.{KeepsReading, EntriesKeepReading, NodeKeepsReading, ChildrenKeepReading, DocumentKeepsReading, NodesKeepReading}
use Rattle.kdl_laws.specs.KeptForm.{EmptyFormFails, UnflaggedKeepReading, empty_form}

not_flagged : (keep : Bool) (e : Entry) → keep ≡ false → is_kept_format e.format ≡ false → is_kept_format (with_keep_if keep e).format ≡ true → ⊥
not_flagged true e k m h = absurd cc
not_flagged false e k m h = absurd cc

module _ (s : Settings) (k : s.entry_autoformate_keep ≡ false) where
  entries_keep : (es : List Entry) → EntriesKeepNone es → EntriesKeepReading s es
  entries_keep [] m = tt
  entries_keep (e ∷ es) m = (λ h. absurd (not_flagged s.entry_autoformate_keep e k m.0 h), entries_keep es m.1)

  mutual
    node_keeps : (n : Node) → NodeKeepsNone n → NodeKeepsReading s n
    node_keeps (node h c) m = (entries_keep h.entries m.0, children_keep c m.1)

    children_keep : (c : Children) → ChildrenKeepNone c → ChildrenKeepReading s c
    children_keep no_children m = tt
    children_keep (children (document f at ns)) m = nodes_keep ns m

    nodes_keep : (ns : Nodes) → NodesKeepNone ns → NodesKeepReading s ns
    nodes_keep none m = tt
    nodes_keep (first n ns) m = (node_keeps n m.0, nodes_keep ns m.1)

-- no entry is flagged
unflagged_keeps : (s : Settings) (d : Document) → s.entry_autoformate_keep ≡ false → DocumentKeepsNone d → DocumentKeepsReading s d
unflagged_keeps s (document f at ns) k m = nodes_keep s k ns m

pub unflagged_keep_reading : UnflaggedKeepReading
unflagged_keep_reading = (unflagged_keeps, λ s n k m. node_keeps s k n m)

-- an entry that prints nothing
letter : is_identifier_char 101 ≡ true
unfolding is_space is_newline_char is_banned is_punctuation is_identifier_char
letter = refl

different : (b : Bool) → b ≡ true → b ≡ false → ⊥
different true h k = absurd cc
different false h k = absurd cc

empty_form_fails : KeepsReading defaults empty_form → ⊥
empty_form_fails h = different (is_identifier_char 101) letter (value_end_no_identifier ((h refl).begins (101 ∷ [])))

pub empty_form_does_not_read : EmptyFormFails
empty_form_does_not_read h e x = empty_form_fails (subst (EntriesKeepReading defaults) e x.0.0).0
