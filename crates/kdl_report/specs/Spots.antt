-- A place that is reached from left to right. Only contracts of private functions mention these definitions.
use Rattle.std.specs.Prelude.{◌≡◌, ℕ, ◌^◌, ◌<◌, ◌≤◌, Bool, true, false, List, [], ◌∷◌, ◌++◌, chars}
use Rattle.std.specs.Prelude.{encode_utf8}
use Rattle.std.specs.Str.{IsUtf8}
use Rattle.kdl_text.specs.Chars.{Text, is_newline_char}
use Rattle.kdl_text.specs.Spans.{bytes}
use Rattle.kdl_report.specs.Places.{is_cr_lf, before, from, last_line, line_number, column}
use Rattle.kdl_report.specs.Rows.{Row}
use Rattle.kdl_report.specs.Windows.{room}
use Rattle.kdl_report.specs.declared.window.Excerpt.{Excerpt}
use Rattle.kdl_report.specs.declared.places.Spot.{Spot}
use Rattle.kdl_report.specs.declared.places.Unit.{Unit as UnitRow}

-- a CR LF, or another character, before the text r; it is a newline or not
pub data IsUnit : Text → Text → Bool → Type 0 where
  cr_lf : {r : Text} → IsUnit (13 ∷ 10 ∷ []) r true
  one : {c : ℕ} {r : Text} {newline : Bool} → is_cr_lf c r ≡ false → is_newline_char c ≡ newline → IsUnit (c ∷ []) r newline

-- the text begins with that unit
pub record BeginsWith (t : Text) (u : UnitRow) : Type 0 where
  pub unit : Text
  pub whole : t ≡ unit ++ chars u.rest.now
  pub is : IsUnit unit (chars u.rest.now) u.is_newline
  pub len : bytes unit ≡ u.len
  pub utf8 : IsUtf8 u.rest.now

abbrev pub spot_text : Spot → Text
spot_text s = chars s.text.now

-- what a spot has of its place is so
pub record IsSpot (s : Spot) : Type 0 where
  pub small : bytes (spot_text s) < 2 ^ 63
  pub at : bytes (before s.at (spot_text s)) ≡ s.at
  pub rest : chars s.rest.now ≡ from s.at (spot_text s)
  pub line : s.line ≡ line_number s.at (spot_text s)
  pub column : s.column ≡ column s.at (spot_text s)
  pub line_text : chars s.line_text.now ≡ last_line (before s.at (spot_text s)) ++ from s.at (spot_text s)

-- a spot of the text t
pub record IsSpotOf (t : Text) (s : Spot) : Type 0 where
  pub text : spot_text s ≡ t
  pub is : IsSpot s

-- the spot is at byte n, or where that is cut back to
pub record IsSpotAt (n : ℕ) (t : Text) (s : Spot) : Type 0 where
  pub text : spot_text s ≡ t
  pub is : IsSpot s
  pub within : s.at ≤ n
  pub before : before s.at t ≡ before n t
  pub from : from s.at t ≡ from n t

-- the next spot, a unit further and up to byte n at most
pub record IsNext (n : ℕ) (old new : Spot) : Type 0 where
  pub text : spot_text new ≡ spot_text old
  pub is : IsSpot new
  pub further : old.at < new.at
  pub within : new.at ≤ n

-- the line at the front of the text t goes on with a character that has room in n columns: its room, and the text after it
pub record TakesFirst (n : ℕ) (t : Text) (size : ℕ) (rest : List ℕ) : Type 0 where
  pub c : ℕ
  pub whole : t ≡ c ∷ chars rest
  pub plain : is_newline_char c ≡ false
  pub columns : room c ≡ size
  pub fits : size ≤ n
  pub utf8 : IsUtf8 rest

-- the text ends with a character that has room in n columns: its room, and the text before it
pub record TakesLast (n : ℕ) (text : List ℕ) (size : ℕ) (rest : List ℕ) : Type 0 where
  pub c : ℕ
  pub bytes : text ≡ rest ++ encode_utf8 c
  pub whole : chars text ≡ chars rest ++ c ∷ []
  pub columns : room c ≡ size
  pub fits : size ≤ n
  pub utf8 : IsUtf8 rest

-- the text is empty, or ends with a character that has no room in n columns
pub data HasNoRoom (n : ℕ) : Text → Type 0 where
  empty : HasNoRoom n []
  full : (t : Text) (c : ℕ) → n < room c → HasNoRoom n (t ++ c ∷ [])

-- what is shown of a line, and what is marked there
abbrev pub excerpt_row : Excerpt → Row
excerpt_row e = record {
  number = e.number;
  line = (chars e.before.now ++ chars e.left.now) ++ (chars e.right.now ++ chars e.after.now);
  left = chars e.before.now ++ chars e.left.now;
  marked = chars e.marked.now;
}
