-- Numbers (KDL 2.0.0, Number).
use Rattle.std.specs.Prelude.{◌≡◌, ℕ, ◌^◌, ℤ, pos, neg_ℤ, Bool, true, false, ◌&&◌, ◌||◌, ◌==◌, nat_lt, nat_le, if◌then◌else◌, [], ◌∷◌, Option, Some, None, not, filter, ◌++◌, ◌⊎◌, codes}
use Rattle.std.specs.Char.{is_digit as is_digit_in}
use Rattle.std.specs.Str.Parse.{digits_value}
use Rattle.kdl_text.specs.Chars.{Text, is_digit, is_sign, is_identifier_char, begins, starts}
use Rattle.kdl_text.specs.declared.numbers.Keyword.{Keyword}
use Rattle.kdl_text.specs.declared.numbers.Keyword.TheVariants.{True, False, Null, Infinity, NegativeInfinity, NotANumber}

-- a digit of the base: `0` to `9`, then the letters from `a` or `A` on
unfoldable pub is_digit_of : ℕ → ℕ → Bool
is_digit_of radix c = is_digit_in c radix

-- a digit of the base, or `_`
abbrev pub is_part : ℕ → ℕ → Bool
is_part radix c = is_digit_of radix c || c == 95

-- no sign, `+` or `-`, and whether it is `-`
pub data Sign : Text → Text → Bool → Type 0 where
  none : {t : Text} → starts is_sign t ≡ false → Sign t t false
  plus : {r : Text} → Sign (43 ∷ r) r false
  minus : {r : Text} → Sign (45 ∷ r) r true

-- the base that the letter after a `0` means: 16 by `x` or `X`, 8 by `o` or `O`, 2 by `b` or `B`
abbrev pub base_of : ℕ → Option ℕ
base_of c =
    if c == 120 || c == 88 then Some 16
    else if c == 111 || c == 79 then Some 8
    else if c == 98 || c == 66 then Some 2
    else None

-- the base whose prefix begins the text
abbrev pub base_prefix : Text → Option ℕ
base_prefix [] = None
base_prefix (c ∷ []) = None
base_prefix (c ∷ d ∷ s) = if c == 48 then base_of d else None

-- the prefix of a base: none for 10
pub data BasePrefix : Text → Text → ℕ → Type 0 where
  ten : {t : Text} → base_prefix t ≡ None → BasePrefix t t 10
  other : {c d radix : ℕ} {r : Text} → base_prefix (c ∷ d ∷ r) ≡ Some radix → BasePrefix (c ∷ d ∷ r) r radix

-- digits and `_`, as many as are here; w is only the digits
pub data Digits (radix : ℕ) : Text → Text → Text → Type 0 where
  stop : {r : Text} → starts (is_part radix) r ≡ false → Digits radix r r []
  digit : {c : ℕ} {s r w : Text} → is_digit_of radix c ≡ true → Digits radix s r w → Digits radix (c ∷ s) r (c ∷ w)
  underscore : {s r w : Text} → Digits radix s r w → Digits radix (95 ∷ s) r w

-- a digit, then digits and `_`
pub data Integer (radix : ℕ) : Text → Text → Text → Type 0 where
  integer : {c : ℕ} {s r w : Text} → is_digit_of radix c ≡ true → Digits radix s r w → Integer radix (c ∷ s) r (c ∷ w)

-- n, or -n after `-`
abbrev pub signed : Bool → ℕ → ℤ
signed negative n = if negative then neg_ℤ (pos n) else pos n

-- it is a signed number of 128 bits
abbrev pub fits : Bool → ℕ → Bool
fits negative n = if negative then nat_le n (2 ^ 127) else nat_lt n (2 ^ 127)

-- a sign, the prefix of a base and an integer, whose value is z, and no identifier character after them
pub data WholeNumber : Text → Text → ℤ → Type 0 where
  whole : {t s u r w : Text} {negative : Bool} {radix : ℕ} {z : ℤ} → Sign t s negative → BasePrefix s u radix → Integer radix u r w → starts is_identifier_char r ≡ false
      → fits negative (digits_value radix w) ≡ true → z ≡ signed negative (digits_value radix w) → WholeNumber t r z

-- a point and an integer, or neither
pub data Fraction : Text → Text → Bool → Type 0 where
  none : {t : Text} → begins 46 t ≡ false → Fraction t t false
  fraction : {s r w : Text} → Integer 10 s r w → Fraction (46 ∷ s) r true

-- `e` and `E`
abbrev pub is_exponent_letter : ℕ → Bool
is_exponent_letter c = c == 101 || c == 69

-- `e` or `E`, a sign and an integer, or none of these
pub data Exponent : Text → Text → Bool → Type 0 where
  none : {t : Text} → starts is_exponent_letter t ≡ false → Exponent t t false
  exponent : {c : ℕ} {s t r w : Text} {negative : Bool} → is_exponent_letter c ≡ true → Sign s t negative → Integer 10 t r w → Exponent (c ∷ s) r true

-- what turns an integer into a decimal: a fraction or an exponent or both, and no identifier character after them
pub data DecimalPart : Text → Text → Type 0 where
  part : {t s r : Text} {point power : Bool} → Fraction t s point → Exponent s r power → (point || power) ≡ true → starts is_identifier_char r ≡ false → DecimalPart t r

-- a text without `_`
abbrev pub plain : Text → Text
plain p = filter (λ c. not (c == 95)) p

-- a sign, an integer and the part that turns it into a decimal; w is the whole piece without `_`
pub data Decimal : Text → Text → Text → Type 0 where
  decimal : {t s u r v w : Text} {negative : Bool} (p : Text) → Sign t s negative → Integer 10 s u v → DecimalPart u r → t ≡ p ++ r → w ≡ plain p → Decimal t r w

-- the value of a number
pub data NumberValue : Type 0 where
  whole_value : ℤ → NumberValue
  decimal_text : Text → NumberValue

-- a whole number, or a decimal
pub data IsNumber : Text → Text → NumberValue → Type 0 where
  is_whole : {t r : Text} {z : ℤ} → WholeNumber t r z → IsNumber t r (whole_value z)
  is_decimal : {t r w : Text} → Decimal t r w → IsNumber t r (decimal_text w)

-- the text of a keyword
abbrev pub keyword_text : Keyword → Text
keyword_text True = codes "#true"
keyword_text False = codes "#false"
keyword_text Null = codes "#null"
keyword_text Infinity = codes "#inf"
keyword_text NegativeInfinity = codes "#-inf"
keyword_text NotANumber = codes "#nan"

-- the text of the keyword k, and no identifier character after it
pub data IsKeyword : Text → Text → Keyword → Type 0 where
  keyword : {t r : Text} {k : Keyword} → t ≡ keyword_text k ++ r → starts is_identifier_char r ≡ false → IsKeyword t r k

-- a keyword that is a number
abbrev pub FloatKeyword : Text → Type 0
FloatKeyword s = (s ≡ codes "#inf") ⊎ (s ≡ codes "#-inf") ⊎ (s ≡ codes "#nan")

-- the whole text is a decimal without `_`, or such a keyword
abbrev pub FloatText : Text → Type 0
FloatText s = Decimal s [] s ⊎ FloatKeyword s

-- the text begins as a number does: with a digit, or a sign and a digit
abbrev pub begins_number : Text → Bool
begins_number [] = false
begins_number (c ∷ s) = is_digit c || (is_sign c && starts is_digit s)
