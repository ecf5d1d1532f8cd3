-- Places in a text that is read character by character.
use Rattle.std.specs.Prelude.{◌≡◌, ◌+◌, ◌==◌, ◌&&◌, if◌then◌else◌, not, ℕ, Bool}
use Rattle.kdl.specs.Words.{Text}
use Rattle.kdl_text.specs.Chars.{begins}
use Rattle.c_calls.specs.Positions.{column_after, ends_newline, line_after}
use Rattle.c_calls.specs.declared.place.Place.{Place}

-- the line of a place, given whether a line feed follows
abbrev pub line_of : Place → Bool → ℕ
line_of p feed = if p.returned && not feed then p.line + 1 else p.line

-- the column of a place, given whether a line feed follows
abbrev pub column_of : Place → Bool → ℕ
column_of p feed = if p.returned && not feed then 1 else p.column

-- q is the place after p and the character c, if the text r follows it
pub record Moved (p : Place) (c : ℕ) (r : Text) (q : Place) : Type 0 where
  pub line : line_of q (begins 10 r) ≡ if ends_newline c r then line_of p (c == 10) + 1 else line_of p (c == 10)
  pub column : column_of q (begins 10 r) ≡ if ends_newline c r then 1 else column_of p (c == 10) + 1

-- p is the place after the text s, counted from its start, if the text r follows it
pub record IsAfter (s r : Text) (p : Place) : Type 0 where
  pub line : line_of p (begins 10 r) ≡ line_after 1 s r
  pub column : column_of p (begins 10 r) ≡ column_after 1 s r
