-- What the readers of lexemes and value ends advance past, and what that costs.
use Rattle.std.specs.Prelude.{◌≡◌, ℕ, ◌+◌, ◌*◌, ◌<◌, ◌≤◌, ◌++◌, ◌||◌, [], Bool, Option, Some, None}
use Rattle.std.specs.Option.{IfSome}
use Rattle.kdl_text.specs.Chars.{Text, is_number_sign, is_quote}
use Rattle.kdl_text.specs.Internal.Here.{Here, IsPart, Position}
use Rattle.kdl_text.specs.Spans.{bytes}
use Rattle.kdl_text.specs.Internal.Reading.{Moves}
use Rattle.kdl_diagnostics.specs.declared.strings.Found.{Found}
use Rattle.kdl_diagnostics.specs.declared.lexemes.Lexeme.{Lexeme}

-- the cursor went on
pub record Reads (k c : ℕ) (old new : Here) : Type 0 where
  -- it is in the same text, and its count did not fall
  pub moves : Moves old new
  -- at most k steps for each byte that was read, and c more
  pub most : new.steps + k * bytes new.rest ≤ old.steps + k * bytes old.rest + c

-- the cursor went on by at least a byte, at most k steps for each
pub record GoesOn (k : ℕ) (old new : Here) : Type 0 where
  pub reads : Reads k 0 old new
  pub went : bytes new.rest < bytes old.rest

-- the cursor went on, and the text from the place on was read
pub record ReadsFrom (k c : ℕ) (from : Position) (old new : Here) : Type 0 where
  pub moves : Moves old new
  -- at most k steps for each byte from the place up to the cursor, and c more
  pub most : new.steps + k * bytes new.rest ≤ old.steps + k * bytes from.rest + c

-- the place is in the text
abbrev pub LiesIn : Text → Position → Type 0
LiesIn text place = (p : Text) × (text ≡ p ++ place.rest)

-- the place is in what was read of s up to r, or at one of its ends
pub record Passed (s : Text) (place : Position) (r : Text) : Type 0 where
  pub before : LiesIn s place
  pub following : (p : Text) × (place.rest ≡ p ++ r)

-- the cursor is at the place or after it
pub record Since (place : Position) (here : Here) : Type 0 where
  pub before : (p : Text) × (place.rest ≡ p ++ here.rest)
  pub part : IsPart here.text place.rest

-- a value end and the comment after it are in the text
pub record EndsIn (text : Text) (e : Position × Option Position) : Type 0 where
  pub place : LiesIn text e.0
  pub comment : IfSome e.1 (LiesIn text)

-- a value end at the cursor or after it
pub record IsEnd (here : Here) (e : Position × Option Position) : Type 0 where
  pub ends : EndsIn here.rest e
  pub at : e.0.at + bytes e.0.rest ≡ here.at + bytes here.rest

-- a fault in a string that was read
abbrev pub OnFound : Text → Option Found → Text → Type 0
OnFound s None r = Unit {0}
OnFound s (Some f) r = Passed s f.place r

-- the fault that was found before, or else one at the place
abbrev pub FindsAlso : Option Found → Position → Option Found → Type 0
FindsAlso fault place found = (s r : Text) → OnFound s fault r → Passed s place r → OnFound s found r

-- the cursor went on in a string
pub record FindsOn (k c : ℕ) (fault : Option Found) (old : Here) (found : Option Found) (new : Here) : Type 0 where
  pub reads : Reads k c old new
  -- wherever reading began, the fault found so far is the one found before, or one after the old cursor
  pub finds : (s : Text) → ((p : Text) × (s ≡ p ++ old.rest)) → OnFound s fault old.rest → OnFound s found new.rest

-- the places of a lexeme are in the text
pub record Stands (text : Text) (p : Lexeme) : Type 0 where
  pub start : LiesIn text p.start
  pub end : LiesIn text p.end
  pub backslash : IfSome p.backslash (LiesIn text)
  pub comment : IfSome p.comment (LiesIn text)

-- the cursor is after at least a byte of what begins at the place
pub record Past (place : Position) (here : Here) : Type 0 where
  pub since : Since place here
  pub went : bytes here.rest < bytes place.rest

-- a string or a keyword begins with the character
abbrev pub begins_sign : ℕ → Bool
begins_sign c = is_number_sign c || is_quote c

-- a lexeme of the text that begins with s, which the cursor passed
pub record IsLexeme (s : Text) (p : Lexeme) (new : Here) : Type 0 where
  pub stands : Stands s p
  pub went : bytes new.rest < bytes s

-- such a lexeme, or the end of that text
abbrev pub IsNext : Text → Option Lexeme → Here → Type 0
IsNext s None new = s ≡ []
IsNext s (Some p) new = IsLexeme s p new

-- the cursor passed the lexeme, at such costs
pub record Lexes (k c : ℕ) (old : Here) (p : Lexeme) (new : Here) : Type 0 where
  pub lexeme : IsLexeme old.rest p new
  pub reads : Reads k c old new
