-- Strings, numbers and keywords as they are written, in any of their spellings (KDL 2.0.0, String, Number, Keyword).
use Rattle.std.specs.Prelude.{◌≡◌, true, false}
use Rattle.kdl_text.specs.Chars.{Text}
use Rattle.kdl_text.specs.Bare.{BareString}
use Rattle.kdl_text.specs.Numbers.{NumberValue, whole_value, decimal_text, IsNumber, IsKeyword, keyword_text}
use Rattle.kdl_text.specs.MultiLine.{IsQuoted}
use Rattle.kdl_text.specs.Raw.{IsRaw}
use Rattle.kdl_text.specs.declared.numbers.Keyword.{Keyword}
use Rattle.kdl_text.specs.declared.numbers.Keyword.TheVariants.{True, False, Null, Infinity, NegativeInfinity, NotANumber}
use Rattle.kdl_value.specs.Data.{Value, integer, float, truth, null}

-- one of the spellings of a string: bare, quoted or raw, single-line or multi-line
pub data StringPiece : Text → Text → Text → Type 0 where
  bare : {s r v : Text} → BareString s r v → StringPiece s r v
  quoted : {s r v : Text} → IsQuoted s r v → StringPiece s r v
  raw : {s r v : Text} → IsRaw s r v → StringPiece s r v

-- the value of a number
abbrev pub number_value : NumberValue → Value
number_value (whole_value z) = integer z
number_value (decimal_text w) = float w

-- the value of a keyword
abbrev pub keyword_value : Keyword → Value
keyword_value True = truth true
keyword_value False = truth false
keyword_value Null = null
keyword_value Infinity = float (keyword_text Infinity)
keyword_value NegativeInfinity = float (keyword_text NegativeInfinity)
keyword_value NotANumber = float (keyword_text NotANumber)

-- a number, or a keyword
pub data PlainPiece : Text → Text → Value → Type 0 where
  number : {s r : Text} {n : NumberValue} {v : Value} → IsNumber s r n → v ≡ number_value n → PlainPiece s r v
  keyword : {s r : Text} {k : Keyword} {v : Value} → IsKeyword s r k → v ≡ keyword_value k → PlainPiece s r v
