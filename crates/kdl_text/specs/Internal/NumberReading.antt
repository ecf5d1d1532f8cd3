-- How far a reader of numbers has come in the text.
use Rattle.std.specs.Prelude.{◌≡◌, ℕ, ◌<◌, ◌≤◌, ◌^◌, ◌-◌, min, ◌↔◌, true, false, Option, Some, None, Result, Ok, Err}
use Rattle.std.specs.Prelude.{string_bytes, ◌∷◌, ◌++◌, Bool, ℤ}
use Rattle.std.specs.Str.{chars}
use Rattle.std.specs.Char.{digit_value}
use Rattle.std.specs.Str.Parse.{digits_value, digits_value_after}
use Rattle.kdl_text.specs.Chars.{Text, starts, is_identifier_char}
use Rattle.kdl_text.specs.Internal.Here.{Here, Stayed, Took}
use Rattle.kdl_text.specs.Numbers.{is_digit_of, fits, base_prefix, Digits, Integer, Sign, BasePrefix, Fraction, Exponent, DecimalPart, WholeNumber, Decimal as DecimalText, plain, NumberValue, whole_value, decimal_text, IsNumber, IsKeyword, keyword_text, is_exponent_letter}
use Rattle.kdl_text.specs.declared.numbers.Radix.{Radix}
use Rattle.kdl_text.specs.declared.numbers.Radix.TheVariants.{Binary, Octal, Decimal, Hexadecimal}
use Rattle.kdl_text.specs.declared.numbers.NumberFault.{NumberFault}
use Rattle.kdl_text.specs.declared.numbers.NumberFault.TheVariants.{Trailing, TrailingDecimal, MissingDigits, MissingFraction, MissingExponent, OutOfRange}
use Rattle.kdl_text.specs.declared.numbers.NumberFailure.{NumberFailure}
use Rattle.kdl_text.specs.declared.numbers.NumberFailure.TheVariants.{Fault, Memory}
use Rattle.kdl_text.specs.declared.numbers.Number.{Number}
use Rattle.kdl_text.specs.declared.numbers.Number.TheVariants.{Integer as IntegerNumber, Decimal as DecimalNumber}
use Rattle.kdl_text.specs.declared.numbers.Front.{Front}
use Rattle.kdl_text.specs.declared.numbers.Keyword.{Keyword}

-- the base as a number
abbrev pub radix_of : Radix → ℕ
radix_of Binary = 2
radix_of Octal = 8
radix_of Decimal = 10
radix_of Hexadecimal = 16

-- the base that a letter denotes
abbrev pub IsBase : Option Radix → Option ℕ → Type 0
IsBase (Some b) k = k ≡ Some (radix_of b)
IsBase None k = k ≡ None

-- the base whose prefix is here, at which one or two looks were made
abbrev pub LooksBasePrefix : Option Radix → Here → Here → Type 0
LooksBasePrefix (Some b) old new = (base_prefix old.rest ≡ Some (radix_of b)) × Stayed 2 old new
LooksBasePrefix None old new = (base_prefix old.rest ≡ None) × (k : ℕ) × (k ≤ 2) × Stayed k old new

-- the magnitude is n, or the greatest number of 128 bits if n needs more
abbrev pub Counts : ℕ → ℕ → Type 0
Counts m n = m ≡ min n (2 ^ 128 - 1)

-- a sign was read if one is here
abbrev pub SignOf : Bool → Text → Text → Type 0
SignOf negative s rest = Sign s rest negative

-- the prefix of a base was read if one is here
abbrev pub BaseOf : Radix → Text → Text → Type 0
BaseOf b s rest = BasePrefix s rest (radix_of b)

-- the value of the character as a digit of the base, or that it is not one
abbrev pub IsDigit : ℕ → ℕ → Option ℕ → Type 0
IsDigit radix c None = is_digit_of radix c ≡ false
IsDigit radix c (Some d) = (is_digit_of radix c ≡ true) × (d ≡ digit_value c) × (d < radix)

-- the digits and `_` here were read, and are appended to the number read so far
abbrev pub ReadsDigits : ℕ → ℕ → ℕ → Text → Text → Type 0
ReadsDigits radix before after s rest = (w : Text) × Digits radix s rest w × ((n : ℕ) → Counts before n → Counts after (digits_value_after radix n w))

-- an integer was read, or no digit of the base is here
abbrev pub ReadsInteger : ℕ → Option ℕ → Text → Text → Type 0
ReadsInteger radix (Some m) s rest = (w : Text) × Integer radix s rest w × Counts m (digits_value radix w)
ReadsInteger radix None s rest = (rest ≡ s) × (starts (is_digit_of radix) s ≡ false)

-- the front of a number, up to the end of its first integer
pub record IsFront (f : Front) (t rest : Text) : Type 0 where
  pub after_sign : Text
  pub after_base : Text
  pub digits : Text
  pub sign : Sign t after_sign f.negative
  pub base : BasePrefix after_sign after_base (radix_of f.radix)
  pub int : Integer (radix_of f.radix) after_base rest digits
  pub counts : Counts f.magnitude (digits_value (radix_of f.radix) digits)

-- a sign, the prefix of the base and an integer of it begin the text and leave u
pub record Begun (b : Radix) (t u : Text) : Type 0 where
  pub after_sign : Text
  pub after_base : Text
  pub digits : Text
  pub negative : Bool
  pub sign : Sign t after_sign negative
  pub base : BasePrefix after_sign after_base (radix_of b)
  pub int : Integer (radix_of b) after_base u digits

-- a point, and no digit where the text is left
abbrev pub PointFault : Text → Text → Type 0
PointFault s rest = (s ≡ 46 ∷ rest) × (starts (is_digit_of 10) rest ≡ false)

-- `e` or `E` and a sign, and no digit where the text is left
abbrev pub PowerFault : Text → Text → Type 0
PowerFault s rest = (c : ℕ) × (t : Text) × (n : Bool) × (s ≡ c ∷ t) × (is_exponent_letter c ≡ true) × Sign t rest n × (starts (is_digit_of 10) rest ≡ false)

-- what is wrong after the first integer of a decimal, where the text is left
abbrev pub PartFault : NumberFault → Text → Text → Type 0
PartFault MissingFraction s rest = PointFault s rest
PartFault MissingExponent s rest = (t : Text) × (point : Bool) × Fraction s t point × PowerFault t rest
PartFault TrailingDecimal s rest = (t : Text) × (point power : Bool) × Fraction s t point × Exponent t rest power × (starts is_identifier_char rest ≡ true)
PartFault (Trailing b) s rest = (b ≡ Decimal) × (rest ≡ s)
PartFault _ s rest = ⊥

-- what is wrong with the number that begins the text, where the text is left
abbrev pub FaultAt : NumberFault → Text → Text → Type 0
FaultAt (MissingDigits b) t rest = (s : Text) × (n : Bool) × Sign t s n × BasePrefix s rest (radix_of b) × (starts (is_digit_of (radix_of b)) rest ≡ false)
FaultAt (Trailing b) t rest = Begun b t rest × (starts is_identifier_char rest ≡ true)
FaultAt OutOfRange t rest = (b : Radix) × (x : Begun b t rest) × (fits x.negative (digits_value (radix_of b) x.digits) ≡ false)
FaultAt MissingFraction t rest = (u : Text) × Begun Decimal t u × PartFault MissingFraction u rest
FaultAt MissingExponent t rest = (u : Text) × Begun Decimal t u × PartFault MissingExponent u rest
FaultAt TrailingDecimal t rest = (u : Text) × Begun Decimal t u × PartFault TrailingDecimal u rest

-- if a fault is returned, it is the one that is there
abbrev pub IsNumberFault : {A : Type 0} → Result A NumberFailure → Text → Text → Type 0
IsNumberFault (Err (Fault e)) t rest = FaultAt e t rest
IsNumberFault _ t rest = Unit {0}

-- no number begins here, for this fault
pub record NoNumber (e : NumberFault) (s rest : Text) : Type 0 where
  pub none : (r : Text) (v : NumberValue) → IsNumber s r v → ⊥
  pub fault : FaultAt e s rest

-- the front of a number was read, or no number begins here
abbrev pub ReadsFront : Result Front NumberFault → Text → Text → Type 0
ReadsFront (Ok f) s rest = IsFront f s rest
ReadsFront (Err e) s rest = NoNumber e s rest

-- a fraction was read, or seen not to be here; or its point has no digit after it
abbrev pub ReadsFraction : Result Bool NumberFault → Text → Text → Type 0
ReadsFraction (Ok b) s rest = Fraction s rest b
ReadsFraction (Err e) s rest = ((r : Text) (b : Bool) → Fraction s r b → ⊥) × PartFault e s rest

-- an exponent was read, or seen not to be here; or its letter has no digit after it
abbrev pub ReadsExponent : Result Bool NumberFault → Text → Text → Type 0
ReadsExponent (Ok b) s rest = Exponent s rest b
ReadsExponent (Err e) s rest = ((r : Text) (b : Bool) → Exponent s r b → ⊥) × (e ≡ MissingExponent) × PowerFault s rest

-- the part was read that turns an integer into a decimal, or none is here
abbrev pub ReadsPart : Result (Unit {0}) NumberFault → Text → Text → Type 0
ReadsPart (Ok u) s rest = DecimalPart s rest
ReadsPart (Err e) s rest = ((r : Text) → DecimalPart s r → ⊥) × PartFault e s rest

-- a whole number was read, or a decimal, or no number begins here
abbrev pub ReadsWhole : Result (Option ℤ) NumberFault → Text → Text → Type 0
ReadsWhole (Ok (Some z)) s rest = WholeNumber s rest z
ReadsWhole (Ok None) s rest = (p : Text) → s ≡ p ++ rest → DecimalText s rest (plain p)
ReadsWhole (Err e) s rest = NoNumber e s rest

-- the value of the number
abbrev pub number_value : Number → NumberValue
number_value (IntegerNumber n) = whole_value n
number_value (DecimalNumber s) = decimal_text (chars (string_bytes s))

-- a number begins here, and its only value is x; or none begins here; or an allocation failed
abbrev pub ReadsNumber : Result Number NumberFailure → Text → Text → Type 0
ReadsNumber (Ok x) s rest = (r : Text) (v : NumberValue) → IsNumber s r v ↔ ((r ≡ rest) × (v ≡ number_value x))
ReadsNumber (Err (Fault e)) s rest = (r : Text) (v : NumberValue) → IsNumber s r v → ⊥
ReadsNumber (Err Memory) s rest = Unit {0}

-- a keyword begins here, and it is only k; or none begins here
abbrev pub ReadsKeyword : Option Keyword → Text → Text → Type 0
ReadsKeyword (Some k) s rest = (r : Text) (x : Keyword) → IsKeyword s r x ↔ ((r ≡ rest) × (x ≡ k))
ReadsKeyword None s rest = (r : Text) (x : Keyword) → IsKeyword s r x → ⊥

-- `e` or `E` was read if it is here, and else the cursor stayed
abbrev pub AteExponentLetter : Bool → Here → Here → Type 0
AteExponentLetter true old new = (c : ℕ) × (is_exponent_letter c ≡ true) × Took (Some c) old new
AteExponentLetter false old new = (starts is_exponent_letter old.rest ≡ false) × Stayed 1 old new

-- the keyword with this text after its `#`, or no keyword has it
abbrev pub WordOf : Option Keyword → Text → Type 0
WordOf (Some k) w = keyword_text k ≡ 35 ∷ w
WordOf None w = (k : Keyword) → keyword_text k ≡ 35 ∷ w → ⊥
