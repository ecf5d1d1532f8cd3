-- Quoted strings on one line (KDL 2.0.0, Quoted String). `X t r x`: an X begins the text t, leaves r, and has the value x.
use Rattle.std.specs.Prelude.{◌≡◌, ℕ, ◌<◌, ◌≤◌, Bool, true, false, ◌||◌, ◌==◌, if◌then◌else◌, List, [], ◌∷◌, ◌++◌, length, Option, Some, None}
use Rattle.std.specs.List.{list_all}
use Rattle.std.specs.Char.{is_digit}
use Rattle.std.specs.Str.Parse.{digits_value}
use Rattle.kdl_text.specs.Chars.{Text, is_scalar, is_space, is_newline_char, is_literal, starts}

-- a literal character, an escape with its character, or an escape of spaces and newlines
pub data StringUnit : Type 0 where
  literal : ℕ → StringUnit
  escape : ℕ → StringUnit
  spaces : StringUnit

-- an escape with its character, or without one an escape of spaces and newlines
abbrev pub escape_of : Option ℕ → StringUnit
escape_of None = spaces
escape_of (Some c) = escape c

-- the value of a unit
abbrev pub unit_value : StringUnit → Text
unit_value (literal c) = c ∷ []
unit_value (escape c) = c ∷ []
unit_value spaces = []

-- the value of units in a row
abbrev pub values : List StringUnit → Text
values [] = []
values (u ∷ us) = unit_value u ++ values us

-- a space or a character of newlines
abbrev pub is_escaped_space : ℕ → Bool
is_escaped_space c = is_space c || is_newline_char c

-- a hexadecimal digit
abbrev pub is_hex : ℕ → Bool
is_hex c = is_digit c 16

-- the character that a letter after a backslash denotes: `\ " b f n r t s`
abbrev pub letter_escape : ℕ → Option ℕ
letter_escape e =
    if e == 92 || e == 34 then Some e
    else if e == 98 then Some 8
    else if e == 102 then Some 12
    else if e == 110 then Some 10
    else if e == 114 then Some 13
    else if e == 116 then Some 9
    else if e == 115 then Some 32
    else None

-- 1 to 6 hexadecimal digits and `}`, and the Unicode scalar value that they spell
pub record HexNumber (t r : Text) (c : ℕ) : Type 0 where
  pub digits : Text
  pub text : t ≡ digits ++ 125 ∷ r
  pub all : list_all is_hex digits ≡ true
  pub some : 0 < length digits
  pub few : length digits ≤ 6
  pub value : c ≡ digits_value 16 digits
  pub scalar : is_scalar c ≡ true

-- the longest run of characters of a class, which may be empty
pub record Run (p : ℕ → Bool) (t r : Text) : Type 0 where
  pub run : Text
  pub text : t ≡ run ++ r
  pub all : list_all p run ≡ true
  pub stops : starts p r ≡ false

-- one unit
pub data IsUnit : Text → Text → StringUnit → Type 0 where
  one_literal : {c : ℕ} {r : Text} → is_literal c ≡ true → IsUnit (c ∷ r) r (literal c)
  one_letter : {e c : ℕ} {r : Text} → letter_escape e ≡ Some c → IsUnit (92 ∷ e ∷ r) r (escape c)
  one_number : {t r : Text} {c : ℕ} → HexNumber t r c → IsUnit (92 ∷ 117 ∷ 123 ∷ t) r (escape c)
  one_gap : {e : ℕ} {t r : Text} → is_escaped_space e ≡ true → Run is_escaped_space t r → IsUnit (92 ∷ e ∷ t) r spaces

-- units in a row
pub data AreUnits : Text → Text → List StringUnit → Type 0 where
  none : {r : Text} → AreUnits r r []
  more : {t m r : Text} {u : StringUnit} {us : List StringUnit} → IsUnit t m u → AreUnits m r us → AreUnits t r (u ∷ us)

-- units and the closing quote
pub data QuotedBody : Text → Text → Text → Type 0 where
  body : {t r v : Text} {us : List StringUnit} → AreUnits t (34 ∷ r) us → v ≡ values us → QuotedBody t r v

-- a quote, units, and a quote
pub data QuotedString : Text → Text → Text → Type 0 where
  quoted : {t r v : Text} → QuotedBody t r v → QuotedString (34 ∷ t) r v
