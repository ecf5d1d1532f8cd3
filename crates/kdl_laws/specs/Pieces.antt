-- The pieces of a text.
use Rattle.std.specs.Prelude.{◌≡◌, ℕ, ◌+◌, ◌≤◌, List, [], Option, Some, None, length, option_and_then}
use Rattle.std.specs.Str.{IsCharBoundary}
use Rattle.kdl_text.specs.Chars.{Text}
use Rattle.kdl_text.specs.declared.span.SourceSpan.{SourceSpan}
use Rattle.kdl_entry.specs.Data.{Entry as EntryData}
use Rattle.kdl_entry.specs.Tree.{Entry, entry_data}
use Rattle.kdl_grammar.specs.Data.{Nodes}
use Rattle.kdl_grammar.specs.Print.{print_piece}
use Rattle.kdl_grammar.specs.ReadsBack.{EntryReads}
use Rattle.kdl.specs.Said.{last_property, said_node}

-- the span selects a piece of the text: it ends within it, and begins and ends between two characters
pub record IsPiece (text : List ℕ) (span : SourceSpan) : Type 0 where
  pub within : span.offset + span.len ≤ length text
  pub begins : IsCharBoundary text span.offset
  pub ends : IsCharBoundary text (span.offset + span.len)

-- the last property r of the first node s, with its type
abbrev pub said_entry_in : Text → Text → Nodes → Option EntryData
said_entry_in s r x = option_and_then (last_property r) (said_node s x)

-- the text is what an entry with these data prints in a node, and reads back as; it is empty if there is no entry
abbrev pub IsPieceOf : Option EntryData → Text → Type 0
IsPieceOf None p = p ≡ []
IsPieceOf (Some x) p = (e : Entry) × EntryReads e × (entry_data e ≡ x) × (p ≡ print_piece e)
