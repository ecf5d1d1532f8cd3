-- Decimal digits at the front of a text, and their value.
use Rattle.std.specs.Prelude.{◌≡◌, ℕ, ◌+◌, ◌<◌, ◌≤◌, ◌++◌, Bool, false, List, length, get_or, take, nat_lt}
use Rattle.std.specs.Char.{digit_value}
use Rattle.std.specs.Str.{chars}
use Rattle.std.specs.Str.Parse.{AllDigits, digits_value}
use Rattle.kdl_text.specs.Chars.{Text, starts}
use Rattle.kdl_text.specs.Numbers.{is_digit_of, is_part}
use Rattle.kdl_text.specs.Internal.Here.{Here}
use Rattle.kdl_text.specs.Spans.{bytes, raise}

-- n bytes at the front are digits, whose value is v; the byte after them is another digit only if v is at least 2^59, and `_` only if `more`
pub record DecimalsLen (s : List ℕ) (n v : ℕ) (more : Bool) : Type 0 where
  pub few : n ≤ length s
  pub digits : AllDigits 10 (take n s)
  pub value : v ≡ digits_value 10 (take n s)
  pub none : n ≡ 0 → n < length s → nat_lt (digit_value (get_or s n 0)) 10 ≡ false
  pub stops : more ≡ false → n < length s → is_part 10 (get_or s n 0) ≡ false

-- n digits begin the UTF-8 text `old` and leave `new`; their value is v; if no digit is read or `more` is false, they are all
pub record DigitRun (old new : List ℕ) (n v : ℕ) (more : Bool) : Type 0 where
  pub run : Text
  pub text : chars old ≡ run ++ chars new
  pub digits : AllDigits 10 run
  pub len : length old ≡ n + length new
  pub count_is : length run ≡ n
  pub bytes_is : bytes run ≡ n
  pub value : v ≡ digits_value 10 run
  pub none : n ≡ 0 → starts (is_digit_of 10) (chars new) ≡ false
  pub stops : more ≡ false → starts (is_part 10) (chars new) ≡ false

-- the same of a cursor, which counted a look at each, and one at the character after them
pub record RanDigits (run : Text) (n v : ℕ) (more : Bool) (old new : Here) : Type 0 where
  pub text : old.rest ≡ run ++ new.rest
  pub digits : AllDigits 10 run
  pub count_is : length run ≡ n
  pub bytes_is : bytes run ≡ n
  pub value : v ≡ digits_value 10 run
  pub none : n ≡ 0 → starts (is_digit_of 10) new.rest ≡ false
  pub stops : more ≡ false → starts (is_part 10) new.rest ≡ false
  pub at : new.at ≡ old.at + n
  pub steps : new.steps ≡ raise old.steps (n + 1)
  pub same : new.text ≡ old.text

abbrev pub SkipsDigits : ℕ → ℕ → Bool → Here → Here → Type 0
SkipsDigits n v more old new = (run : Text) × RanDigits run n v more old new
