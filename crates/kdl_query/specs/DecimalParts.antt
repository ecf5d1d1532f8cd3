-- The parts into which a number is cut to be compared.
use Rattle.std.specs.Prelude.{◌≡◌, ℕ, ◌+◌, ◌*◌, ◌/◌, ◌^◌, ◌<◌, ◌≤◌, ℤ, pos, neg_ℤ, ◌≤ℤ◌, true, if◌then◌else◌, ◌++◌, length, ◌⊎◌}
use Rattle.std.specs.List.{list_all}
use Rattle.std.specs.Str.Parse.{digits_value}
use Rattle.kdl_text.specs.Chars.{is_digit}
use Rattle.kdl_text.specs.Numbers.{signed}
use Rattle.kdl_query.specs.Decimal.{Rational}
use Rattle.kdl_query.specs.Decimal as exact
use Rattle.kdl_query.specs.declared.decimal.Digits.{Digits}
use Rattle.kdl_query.specs.declared.decimal.Digits.TheVariants.{Number, Text as DigitText}
use Rattle.kdl_query.specs.declared.decimal.Whole.{Whole}
use Rattle.kdl_query.specs.declared.decimal.Decimal.{Decimal}
use Rattle.kdl_query.specs.declared.decimal.Number.{Number as Known}
use Rattle.kdl_query.specs.declared.decimal.Number.TheVariants.{NegativeInfinity, Finite, Infinity}

-- the number that digits write
abbrev pub natural_of : Digits → ℕ
natural_of (Number n) = n
natural_of (DigitText w f) = digits_value 10 (w.now ++ f.now)

-- they are digits, and so many that their places can be counted
abbrev pub IsDigits : Digits → Type 0
IsDigits (Number n) = n < 2 ^ 128
IsDigits (DigitText w f) = (list_all is_digit w.now ≡ true) × (list_all is_digit f.now ≡ true) × (length w.now + length f.now < 2 ^ 63)

-- the whole number without the digits at the last places
abbrev pub cut_at : Whole → ℕ → ℤ
cut_at w place = signed w.negative (natural_of w.digits * 10 ^ w.zeros / 10 ^ place)

abbrev pub whole_of : Whole → ℤ
whole_of w = signed w.negative (natural_of w.digits * 10 ^ w.zeros)

-- its digits are digits, and its zeros can be counted too
pub record IsWhole (w : Whole) : Type 0 where
  pub digits : IsDigits w.digits
  pub zeros : w.zeros ≤ 2 ^ 63

-- a number that is at most so far from 0
abbrev pub IsWithin : ℕ → ℤ → Type 0
IsWithin limit r = (neg_ℤ (pos limit) ≤ℤ r) × (r ≤ℤ pos limit)

-- r is z, or both are at least as far from 0 as the limit, on the same side
abbrev pub Clamps : ℕ → ℤ → ℤ → Type 0
Clamps limit r z = (r ≡ z) ⊎ ((pos limit ≤ℤ r) × (pos limit ≤ℤ z)) ⊎ ((r ≤ℤ neg_ℤ (pos limit)) × (z ≤ℤ neg_ℤ (pos limit)))

-- what is known of a decimal in parts
pub record IsDecimal (d : Decimal) : Type 0 where
  pub digits : IsDigits d.digits
  pub scale : d.scale < 2 ^ 63
  pub power : IsDigits d.power

-- its exponent
abbrev pub exponent : Decimal → Whole
exponent d = record { negative = d.lowers; digits = d.power; zeros = 0 }

-- the number without its point and its exponent, and with zeros after it
abbrev pub followed : Decimal → ℕ → Whole
followed d zeros = record { negative = d.negative; digits = d.digits; zeros = zeros }

-- by how many places its exponent moves the point to the right
abbrev pub raised : Decimal → ℕ
raised d = if d.lowers then 0 else natural_of d.power

-- and to the left, with the digits after the point
abbrev pub lowered : Decimal → ℕ
lowered d = d.scale + (if d.lowers then natural_of d.power else 0)

-- the rational number that it is
abbrev pub rational_of : Decimal → Rational
rational_of d = record { numerator = signed d.negative (natural_of d.digits * 10 ^ raised d); denominator = 10 ^ lowered d }

-- the number that it is
abbrev pub number_of : Known → exact.Number
number_of NegativeInfinity = exact.negative_infinity
number_of (Finite d) = exact.finite (rational_of d)
number_of Infinity = exact.infinity

-- a decimal in parts is one
abbrev pub IsKnown : Known → Type 0
IsKnown NegativeInfinity = Unit {0}
IsKnown (Finite d) = IsDecimal d
IsKnown Infinity = Unit {0}
