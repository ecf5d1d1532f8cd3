-- A place in a text that is read from left to right, and what a cursor's calls do to it.
use Rattle.std.specs.Prelude.{◌≡◌, ℕ, ◌+◌, ◌≤◌, nat_lt, ◌&&◌, List, [], ◌∷◌, ◌++◌, length, Bool, true, false, not, ◌==◌, Option, Some, None}
use Rattle.std.specs.List.{list_all}
use Rattle.std.specs.Char.{len_utf8}
use Rattle.std.specs.Str.{chars}
use Rattle.kdl_text.specs.Chars.{Text, begins, begins_two, starts, is_space, is_identifier_char, is_literal, is_newline_char, is_unquoted, is_number_sign, is_quote}
use Rattle.kdl_text.specs.Spans.{bytes, raise}
use Rattle.kdl_text.specs.declared.chars.Class.{Class}
use Rattle.kdl_text.specs.declared.chars.Class.TheVariants.{Space, Identifier, Literal, Line, Unquoted, NumberSign, Quote, Plain}

-- the state of a cursor: the whole text that it reads, the characters to come, its offset in bytes, and the steps so far
pub record Here : Type 0 where
  pub text : Text
  pub rest : Text
  pub at : ℕ
  pub steps : ℕ

-- a place to which a slice can go back: the characters that follow it, and its offset in bytes
pub record Position : Type 0 where
  pub rest : Text
  pub at : ℕ

-- the piece is a part of the text
pub record IsPart (text piece : Text) : Type 0 where
  pub before : Text
  pub after : Text
  pub whole : text ≡ before ++ (piece ++ after)

-- the first character
abbrev pub first : Text → Option ℕ
first [] = None
first (c ∷ s) = Some c

-- the text after the first character
abbrev pub tail : Text → Text
tail [] = []
tail (c ∷ s) = s

-- the bytes of the first character
abbrev pub first_len : Text → ℕ
first_len [] = 0
first_len (c ∷ s) = len_utf8 c

-- after a look
abbrev pub looked : Here → Here
looked h = record h { steps = raise h.steps 1 }

-- past one character, if there is one
abbrev pub stepped : Here → Here
stepped h = record h { rest = tail h.rest; at = h.at + first_len h.rest }

-- after a slice of the piece p
abbrev pub sliced : Text → Here → Here
sliced p h = record h { steps = raise h.steps (bytes p) }

-- the place is in the cursor's text, and some piece lies between the two
abbrev pub Reached : Position → Here → Type 0
Reached old new = (p : Text) × (old.rest ≡ p ++ new.rest) × IsPart new.text old.rest

-- some piece lies between the two places
abbrev pub Ahead : Position → Position → Type 0
Ahead from to = (p : Text) × (from.rest ≡ p ++ to.rest)

-- a look at the character here, and a step past it
abbrev pub Took : Option ℕ → Here → Here → Type 0
Took None old new = (old.rest ≡ []) × (new ≡ looked old)
Took (Some c) old new = (old.rest ≡ c ∷ new.rest) × (new.at ≡ old.at + len_utf8 c) × (new.steps ≡ raise old.steps 1) × (new.text ≡ old.text)

-- a look whether c is here, and a step past it if it is
abbrev pub Ate : ℕ → Bool → Here → Here → Type 0
Ate c true old new = Took (Some c) old new
Ate c false old new = (begins c old.rest ≡ false) × (new ≡ looked old)

-- the cursor has not moved, and k steps were counted
pub record Stayed (k : ℕ) (old new : Here) : Type 0 where
  pub rest : new.rest ≡ old.rest
  pub at : new.at ≡ old.at
  pub steps : new.steps ≡ raise old.steps k
  pub same : new.text ≡ old.text

-- the cursor has not moved, and at most k steps were counted
abbrev pub Looked : ℕ → Here → Here → Type 0
Looked most old new = (k : ℕ) × (k ≤ most) × Stayed k old new

-- the cursor is back where it was, and at most k steps were counted
pub record Returned (k : ℕ) (old new : Here) : Type 0 where
  pub rest : new.rest ≡ old.rest
  pub at : new.at ≡ old.at
  pub most : new.steps ≤ old.steps + k
  pub counts : raise old.steps 0 ≤ raise new.steps 0
  pub same : new.text ≡ old.text

-- past the characters a and b
pub record TookTwo (a b : ℕ) (old new : Here) : Type 0 where
  pub rest : old.rest ≡ a ∷ b ∷ new.rest
  pub at : new.at ≡ old.at + len_utf8 a + len_utf8 b
  pub steps : new.steps ≡ raise old.steps 2
  pub same : new.text ≡ old.text

-- a look at two characters, and a step past them if they are a and b
abbrev pub AteTwo : ℕ → ℕ → Bool → Here → Here → Type 0
AteTwo a b true old new = TookTwo a b old new
AteTwo a b false old new = (begins_two a b old.rest ≡ false) × Stayed 2 old new

-- a literal character of a quoted string, except a tab
unfoldable pub is_plain : ℕ → Bool
is_plain c = is_literal c && not (c == 9)

-- whether the character is of the class
abbrev pub in_class : Class → ℕ → Bool
in_class Space c = is_space c
in_class Identifier c = is_identifier_char c
in_class Literal c = is_literal c
in_class Line c = not (is_newline_char c)
in_class Unquoted c = is_unquoted c
in_class NumberSign c = is_number_sign c
in_class Quote c = is_quote c
in_class Plain c = is_plain c

-- past the longest run of characters of a class, each looked at once, and the one after it
pub record Ran (p : ℕ → Bool) (run : Text) (old new : Here) : Type 0 where
  pub text : old.rest ≡ run ++ new.rest
  pub all : list_all p run ≡ true
  pub stops : starts p new.rest ≡ false
  pub at : new.at ≡ old.at + bytes run
  pub steps : new.steps ≡ raise old.steps (length run + 1)
  pub same : new.text ≡ old.text

-- `count` ASCII characters of the class begin the UTF-8 text `old` and leave `new`, which begins with no other
pub record AsciiOf (p : ℕ → Bool) (old new : List ℕ) (count : ℕ) : Type 0 where
  pub run : Text
  pub text : chars old ≡ run ++ chars new
  pub all : list_all p run ≡ true
  pub stops : starts (λ c. nat_lt c 128 && p c) (chars new) ≡ false
  pub len : length old ≡ count + length new
  pub count_is : length run ≡ count
  pub bytes_is : bytes run ≡ count

-- a run of `count` characters of the class begins the UTF-8 text `old` and leaves `new`, where it stops
pub record RunOf (p : ℕ → Bool) (old new : List ℕ) (count : ℕ) : Type 0 where
  pub run : Text
  pub text : chars old ≡ run ++ chars new
  pub all : list_all p run ≡ true
  pub stops : starts p (chars new) ≡ false
  pub len : length old ≡ bytes run + length new
  pub count_is : count ≡ length run

-- the longest run of the class begins the UTF-8 text `old` and leaves `new`, whatever its length
abbrev pub AfterRun : (ℕ → Bool) → List ℕ → List ℕ → Type 0
AfterRun p old new = (count : ℕ) × RunOf p old new count

-- the longest run of the class, whichever it is
abbrev pub Skips : (ℕ → Bool) → Here → Here → Type 0
Skips p old new = (run : Text) × Ran p run old new

-- the character c begins the UTF-8 text `old` and leaves `new`
pub record PastChar (c : ℕ) (old new : List ℕ) : Type 0 where
  pub text : chars old ≡ c ∷ chars new
  pub len : length old ≡ len_utf8 c + length new

-- the characters a and b begin the UTF-8 text `old` and leave `new`
pub record PastTwo (a b : ℕ) (old new : List ℕ) : Type 0 where
  pub text : chars old ≡ a ∷ b ∷ chars new
  pub len : length old ≡ len_utf8 a + len_utf8 b + length new

-- a run of characters that pass p begins the UTF-8 text `old` and leaves `new`
pub record Unmarked (p : ℕ → Bool) (old new : List ℕ) : Type 0 where
  pub run : Text
  pub text : chars old ≡ run ++ chars new
  pub all : list_all p run ≡ true
  pub len : length old ≡ bytes run + length new

-- past a run of characters that pass p, at a step for each byte
pub record Passed (p : ℕ → Bool) (old new : Here) : Type 0 where
  pub run : Text
  pub text : old.rest ≡ run ++ new.rest
  pub all : list_all p run ≡ true
  pub at : new.at ≡ old.at + bytes run
  pub steps : new.steps ≡ raise old.steps (bytes run)
  pub same : new.text ≡ old.text

-- past a run of characters that pass p, and past the character c after them, or to the end of the text
abbrev pub TookAfter : (ℕ → Bool) → Option ℕ → Here → Here → Type 0
TookAfter p c old new = (mid : Here) × Passed p old mid × Took c mid new
