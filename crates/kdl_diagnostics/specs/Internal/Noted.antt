-- The places and spans that a reader of faults keeps are in the text that it reads.
use Rattle.std.specs.Prelude.{◌≡◌, ℕ, ◌+◌, ◌-◌, ◌<◌, ◌≤◌, ◌++◌, List, length, All, Option, Result, IfOk, IfSome, IsSome}
use Rattle.kdl_text.specs.Chars.{Text}
use Rattle.kdl_text.specs.Internal.Here.{Here, Position}
use Rattle.kdl_text.specs.Spans.{InText, raise}
use Rattle.kdl_text.specs.declared.error.ParseFailure.{ParseFailure}
use Rattle.kdl_text.specs.declared.span.SourceSpan.{SourceSpan}
use Rattle.kdl_text.specs.declared.error.ParseFailure.TheVariants.{Syntax, Memory}
use Rattle.kdl_syntax.specs.Tokens.{Token, opening, closing}
use Rattle.kdl_diagnostics.specs.Internal.Reading.{LiesIn, Reads, Stands}
use Rattle.kdl_diagnostics.specs.declared.lexemes.Lexeme.{Lexeme}
use Rattle.kdl_diagnostics.specs.declared.notes.Fault.{Fault}
use Rattle.kdl_diagnostics.specs.declared.notes.Notes.{Notes}
use Rattle.kdl_diagnostics.specs.declared.esclines.Candidate.{Candidate}
use Rattle.kdl_diagnostics.specs.declared.front.Prefix.{Prefix}
use Rattle.kdl_diagnostics.specs.declared.reader.Reader.{Reader}

-- the cursor was created over the text, and is in it
pub record ReadsIn (text : Text) (here : Here) : Type 0 where
  pub piece : (p : Text) × (text ≡ p ++ here.rest)
  pub same : here.text ≡ text

-- each fault has a span in the text
abbrev pub Noted : Text → List Fault → Type 0
Noted text faults = All (λ (f : Fault). InText text f.span) faults

-- each open block has a span in the text, if it has one
abbrev pub Opened : Text → List (Option SourceSpan) → Type 0
Opened text blocks = All (λ (b : Option SourceSpan). IfSome b (InText text)) blocks

-- each candidate's fault has a span in the text
abbrev pub Candidates : Text → List Candidate → Type 0
Candidates text candidates = All (λ (c : Candidate). InText text c.fault.span) candidates

-- notes of the text: all their places and all their spans are in it
pub record IsNotesOf (text : Text) (n : Notes) : Type 0 where
  pub whole : n.whole.rest ≡ text
  pub left : LiesIn text n.left
  pub faults : Noted text n.faults.items
  pub blocks : Opened text n.blocks.items
  pub candidates : Candidates text n.candidates.items

-- a reader of the text
pub record IsReaderOf (text : Text) (r : Reader) : Type 0 where
  pub here : ReadsIn text r.cursor
  pub notes : IsNotesOf text r.notes

-- the reader of some text
abbrev pub IsReader : Reader → Type 0
IsReader r = (text : Text) × IsReaderOf text r

-- a front of the text
pub record IsFrontOf (text : Text) (f : Prefix) : Type 0 where
  pub notes : IsNotesOf text f.notes
  pub place : LiesIn text f.place
  pub from : LiesIn text f.from

-- if two places are in the text, a front of the text stays one
abbrev pub KeepsFrontBetween : Position → Position → Prefix → Prefix → Type 0
KeepsFrontBetween a b old new = (text : Text) → IsFrontOf text old → LiesIn text a → LiesIn text b → IsFrontOf text new

-- what holds of every text
abbrev pub Always : Text → Type 0
Always text = Unit {0}

-- two places are in the text
abbrev pub Between : Position → Position → Text → Type 0
Between a b text = LiesIn text a × LiesIn text b

-- a lexeme is of the text
abbrev pub Lexed : Lexeme → Text → Type 0
Lexed p text = Stands text p

-- a lexeme is of the text, and a place is in it
abbrev pub LexedAnd : Lexeme → Position → Text → Type 0
LexedAnd p a text = Stands text p × LiesIn text a

-- a lexeme is of the text, and a cursor is in it
abbrev pub LexedFrom : Lexeme → Here → Text → Type 0
LexedFrom p here text = Stands text p × ReadsIn text here

-- the notes went on
pub record Keeps (P : Text → Type 0) (old new : Notes) : Type 0 where
  -- notes of a text in which P holds are notes of it still
  pub notes : (text : Text) → IsNotesOf text old → P text → IsNotesOf text new
  -- no fault is forgotten
  pub grows : length old.faults.items ≤ length new.faults.items

-- a fault was noted
abbrev pub HasFault : Notes → Type 0
HasFault n = 0 < length n.faults.items

-- the notes went on, to a fault more if memory did not run out
pub record Adds {E : Type 0} (P : Text → Type 0) (result : Result (Unit {0}) E) (old new : Notes) : Type 0 where
  pub keeps : Keeps P old new
  pub noted : IfOk result (λ _. HasFault new)

-- no fault was noted at the `{` of a block
abbrev pub Untold : List (Option SourceSpan) → Type 0
Untold blocks = All IsSome blocks

-- how many blocks are open after a token, if m were open before it: the `{` opens one, and the `}` closes one
abbrev pub Counts : Token → ℕ → ℕ → Type 0
Counts opening m n = n ≡ m + 1
Counts closing m n = n ≡ m - 1
Counts _ m n = n ≡ m

-- the open blocks after a token
abbrev pub CountsOpen : Token → List (Option SourceSpan) → List (Option SourceSpan) → Type 0
CountsOpen k old new = Untold old → Counts k (length old) (length new) × Untold new

-- at most n steps were counted, and the count did not fall
pub record Counted (n : ℕ) (old new : ℕ) : Type 0 where
  pub most : new ≤ old + n
  pub counts : raise old 0 ≤ raise new 0

-- the reader went on, perhaps back in the text
pub record Goes (P : Text → Type 0) (n : ℕ) (old new : Reader) : Type 0 where
  -- a reader of a text in which P holds is a reader of it still
  pub keeps : (text : Text) → IsReaderOf text old → P text → IsReaderOf text new
  -- no fault is forgotten
  pub grows : length old.notes.faults.items ≤ length new.notes.faults.items
  -- at most n steps were counted
  pub counted : Counted n old.cursor.steps new.cursor.steps

-- the reader took a lexeme that it had read
pub record Takes (p : Lexeme) (old new : Reader) : Type 0 where
  -- a reader of the text of the lexeme is a reader of it still
  pub keeps : (text : Text) → IsReaderOf text old → Stands text p → IsReaderOf text new
  -- no fault is forgotten
  pub grows : length old.notes.faults.items ≤ length new.notes.faults.items
  -- the cursor may go on to a value end
  pub reads : Reads 24 24 old.cursor new.cursor

-- if the text was refused, and memory did not run out, P
abbrev pub OnRefused : ParseFailure → Type 0 → Type 0
OnRefused (Syntax e) P = P
OnRefused Memory P = Unit {0}
