-- What follows a number or a keyword is an end of the text.
use Rattle.std.proofs.Common.{ℕ, ℤ, Bool}
use Rattle.kdl_text.specs.Chars.{Text}
use Rattle.kdl_text.specs.Numbers.{Sign, BasePrefix, Digits, Integer, WholeNumber, whole, decimal, IsNumber, is_whole, is_decimal, NumberValue, IsKeyword, keyword, keyword_text}
use Rattle.kdl_text.specs.declared.numbers.Keyword.{Keyword}
use Rattle.kdl_text.proofs.Looking.Ends.{End, here, also, then}

pub digits_end : {k : ℕ} {s r w : Text} → Digits k s r w → End s r
digits_end (Digits.stop x) = here
digits_end (Digits.digit {c = c} x d) = also c (digits_end d)
digits_end (Digits.underscore d) = also 95 (digits_end d)

pub integer_end : {k : ℕ} {s r w : Text} → Integer k s r w → End s r
integer_end (Integer.integer {c = c} x d) = also c (digits_end d)

pub base_end : {s r : Text} {k : ℕ} → BasePrefix s r k → End s r
base_end (BasePrefix.ten x) = here
base_end (BasePrefix.other {c = c} {d = d} x) = also c (also d here)

pub sign_end : {s r : Text} {b : Bool} → Sign s r b → End s r
sign_end (Sign.none x) = here
sign_end Sign.plus = also 43 here
sign_end Sign.minus = also 45 here

pub number_end : {s r : Text} {z : ℤ} → WholeNumber s r z → End s r
number_end (whole g m i x y e) = then (sign_end g) (then (base_end m) (integer_end i))

pub any_number_end : {s r : Text} {n : NumberValue} → IsNumber s r n → End s r
any_number_end (is_whole w) = number_end w
any_number_end (is_decimal (decimal p g i d e f)) = record { piece = p; text = e }

pub keyword_end : {s r : Text} {k : Keyword} → IsKeyword s r k → End s r
keyword_end {k = k} (keyword e n) = record { piece = keyword_text k; text = e }
