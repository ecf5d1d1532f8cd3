-- The terms of the laws that `Words` of kdl does not re-export, in one place for the crates that cite laws. Declares nothing.

-- Laws of the written grammar of documents and nodes.
pub use Rattle.kdl_grammar.specs.Laws.{EditedIsLaid, FormerIsKept, LaidIsDerived, LaidNodeIsDerived, NodesAreLaid, OneDocument, OneLaidDocument, OneLaidNode, OneNode, ReadsBack}
-- Which texts begin a document.
pub use Rattle.kdl_grammar.specs.GoingOn.{Alive, AliveInToken, BeginsNoOther, BeginsSome, Dead, DeadAtFront, DeadAtToken, Derived, DerivedAtEnd, DerivedNode, NodeAlive, NodeDeadAtToken, RefusedAtPiece, Viable}
-- Laws of the written grammar of identifiers and entries.
pub use Rattle.kdl_entry.specs.Laws.{LaidEntryIsDerived, LaidIdentifierIsDerived, OneEntry, OneIdentifier, OneLaidEntry, OneLaidIdentifier, TextsAreLaid}
-- Laws of what is printed: strings, floats, entries without form.
pub use Rattle.kdl_value.specs.Spelled.{SpelledReadsBack, SpelledReadsBackBefore}
pub use Rattle.kdl_value.specs.Floats.{DecimalsAreFloats}
pub use Rattle.kdl_entry.specs.Formless.{FormlessReadsBack}
-- Items: the lists of a place, of a node and of a document.
pub use Rattle.kdl_layout.specs.Items.{GapItems, Item, Place, PlaceItems, before_block, before_entry, after_block}
pub use Rattle.kdl_layout.specs.Comments.{DocumentItems, EndItems, InnerItems, NodeItems}
-- Entries that keep their form.
pub use Rattle.kdl_laws.specs.KeptForm.{EmptyFormFails, UnflaggedKeepReading}
-- The texts that may be in a place.
pub use Rattle.kdl_text.specs.Chars.{Star}
pub use Rattle.kdl_text.specs.Trivia.{LineComment, NodeSpace}
pub use Rattle.kdl_entry.specs.Places.{EntryLeading}
pub use Rattle.kdl_grammar.specs.Grammar.{Gap}
pub use Rattle.kdl_grammar.specs.Places.{AfterChildren, BeforeChildren}
pub use Rattle.kdl_layout.specs.Kept.{without_bom}
pub use Rattle.kdl_laws.specs.Leading.{DocumentLeading}
-- Written items.
pub use Rattle.kdl_layout.specs.Written.{lines, on_line, tail}
-- Keys, errors and their parts, which `==` compares; hashes.
pub use Rattle.kdl_laws.specs.Hashes.{WritesBoth}
pub use Rattle.kdl_laws.specs.Keys.{sought_anywhere}
pub use Rattle.kdl_laws.specs.Errors.{Diagnostic, Failure, Refusal, diagnostic_tree, error_tree, failure_tree, memory, syntax'}
-- Pieces of a text: those of a diagnostic, and of an entry.
pub use Rattle.kdl_laws.specs.Pieces.{IsPiece, IsPieceOf, said_entry_in}
-- Documents to whose list of nodes a node can be pushed.
pub use Rattle.kdl_laws.specs.Pushed.{IsLineEnded, LastEnds}
-- The data of a document with another value for an argument, and texts with another piece.
pub use Rattle.kdl_laws.specs.ArgumentSet.{HasInstead, with_said_arg}
-- What comes before a node that is laid out alone; what layout makes of a text.
pub use Rattle.kdl_layout.specs.Blank.{at_start}
pub use Rattle.kdl_laws.specs.LaidOut.{IsLaidOut, IsSpacedOut}
-- Whether two texts have the same bytes, or the same characters.
pub use Rattle.kdl_parts.specs.EntryLists.{same_text}
