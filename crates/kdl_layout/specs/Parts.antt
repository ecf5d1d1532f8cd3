-- The parts of a node and a document, laid out: entries, and the texts around the other parts.
use Rattle.std.specs.Prelude.{◌≡◌, Bool, true, false, if◌then◌else◌, List, [], ◌∷◌, ◌++◌, Option, None, Some}
use Rattle.kdl_text.specs.Chars.{Text}
use Rattle.kdl_value.specs.Print.{print_value}
use Rattle.kdl_entry.specs.Tree.{Entry, EntryFormat, empty_format, autoformatted}
use Rattle.kdl_grammar.specs.Tree.{NodeFormat, DocumentFormat, Children, no_children, children, Nodes, none}
use Rattle.kdl_layout.specs.Config.{Settings}
use Rattle.kdl_layout.specs.Formatted.{with_keep_if, newline_if_none, in_braces}
use Rattle.kdl_layout.specs.Kept.{KeptBefore}

-- an entry after what is kept of the text before it, if anything is kept
abbrev pub following : Text → Entry → Entry
following [] e = e
following (c ∷ s) e = record e { format = Some (record empty_format { leading = (c ∷ s) ++ (32 ∷ []); value_repr = print_value e.value }) }

-- an entry with a format, or unchanged if there is none
abbrev pub put_format : Option EntryFormat → Entry → Entry
put_format None e = e
put_format (Some f) e = record e { format = Some f }

-- the second entry is the first one, laid out
abbrev pub IsFormattedEntry : Settings → Entry → Entry → Type 0
IsFormattedEntry s e e' = (t : Text) × KeptBefore s (with_keep_if s.entry_autoformate_keep e).format t × (e' ≡ following t (autoformatted (with_keep_if s.entry_autoformate_keep e)))

-- the second entries are the first ones, laid out
abbrev pub AreFormattedEntries : Settings → List Entry → List Entry → Type 0
AreFormattedEntries s [] [] = Unit {0}
AreFormattedEntries s (e ∷ es) (e' ∷ es') = IsFormattedEntry s e e' × AreFormattedEntries s es es'
AreFormattedEntries s _ _ = ⊥

-- what is kept of the texts around the parts of a node
pub record NodeTexts : Type 0 where
  pub before : Text
  pub before_block : Text
  pub last : Text
  pub space : Text
  pub comment : Text
  pub following : Text

-- the node's line, after the indentation
abbrev pub line_of : Text → NodeTexts → NodeFormat
line_of before k = record {
  leading = k.before ++ before;
  before_ty_name = [];
  after_ty_name = [];
  after_ty = [];
  before_children = k.before_block ++ (32 ∷ []);
  before_terminator = k.last ++ k.space;
  terminator = k.comment ++ (10 ∷ []);
  trailing = k.following;
}

-- a newline if there are no nodes, unless `compact` is true
abbrev pub newline_at_end : Bool → Nodes → Text
newline_at_end true ns = []
newline_at_end false ns = newline_if_none ns

-- the texts around the nodes of a document
abbrev pub content_of : Bool → Nodes → Text → Text → DocumentFormat
content_of compact ns before following = record { leading = before; trailing = following ++ newline_at_end compact ns }

-- a block that prints `{}`: `compact` is true, it has no nodes, and no comment is kept in it
abbrev pub is_empty_block : Bool → Nodes → Text → Text → Bool
is_empty_block true none [] [] = true
is_empty_block _ _ _ _ = false

-- the texts around the nodes of a block, in a node with the indentation
abbrev pub block_of : Bool → Text → Nodes → Text → Text → DocumentFormat
block_of compact indentation ns before following =
    if is_empty_block compact ns before following then record { leading = []; trailing = [] } else in_braces indentation (content_of compact ns before following)

-- whether the node has a block
abbrev pub has_block : Children → Bool
has_block no_children = false
has_block (children d) = true
