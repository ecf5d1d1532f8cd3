-- Numbers: a text begins with one at most, and what begins one.
use Rattle.std.proofs.Common.{◌≡◌, ℕ, ◌<◌, ◌≤◌, [], ◌∷◌, ◌++◌, Bool, true, false, ◌&&◌, ◌||◌, ◌==◌, length, refl, ap, sym, ◌∙◌, subst, arith, ℤ, Some, None, ◌⊎◌, inl, inr}
use Rattle.std.proofs.Math.Bool.{or-true}
use Rattle.std.proofs.lemmas.Bool.{and_parts, or_cases}
use Rattle.std.proofs.lemmas.Bool.Decides.{nat_tests}
use Rattle.std.specs.Prelude.{if◌then◌else◌}
use Rattle.std.specs.Str.Parse.{digits_value}
use Rattle.kdl_text.specs.Chars.{Text, is_digit, is_sign, is_identifier_char, is_space, is_newline_char, is_banned, is_punctuation, starts}
use Rattle.std.specs.List.{list_all}
use Rattle.kdl_text.specs.Bare.{is_bare, bare_form, BareString, bare}
use Rattle.kdl_text.specs.Numbers.{is_digit_of, is_part, Sign, BasePrefix, Digits, Integer, WholeNumber, whole, integer, begins_number, base_of, base_prefix, signed, fits}
use Rattle.kdl_text.specs.Numbers.Sign.{none, plus, minus}
use Rattle.kdl_text.specs.Numbers.BasePrefix.{ten, other}
use Rattle.kdl_text.specs.Numbers.Digits.{stop, digit, underscore}

pub sign_det : {t r s : Text} {m n : Bool} → Sign t r m → Sign t s n → (r ≡ s) × (m ≡ n)
sign_det (none x) (none y) = (refl, refl)
sign_det (none x) plus = cc
sign_det (none x) minus = cc
sign_det plus (none x) = cc
sign_det plus plus = (refl, refl)
sign_det minus (none x) = cc
sign_det minus minus = (refl, refl)

pub base_det : {t r s : Text} {m n : ℕ} → BasePrefix t r m → BasePrefix t s n → (r ≡ s) × (m ≡ n)
base_det (ten x) (ten y) = (refl, refl)
base_det (ten x) (other y) = cc
base_det (other x) (ten y) = cc
base_det (other x) (other y) = (refl, cc)

part_digit : (k c : ℕ) → is_digit_of k c ≡ true → is_part k c ≡ true
part_digit k c x = rw x refl

pub digits_det : {k : ℕ} {t r s v w : Text} → is_digit_of k 95 ≡ false → Digits k t r v → Digits k t s w → (r ≡ s) × (v ≡ w)
digits_det n (stop x) (stop y) = (refl, refl)
digits_det {k = k} n (stop x) (digit {c = c} y q) = let z = part_digit k c y in cc
digits_det {k = k} n (stop x) (underscore q) = let z = or-true (is_digit_of k 95) in cc
digits_det {k = k} n (digit {c = c} x p) (stop y) = let z = part_digit k c x in cc
digits_det n (digit {c = c} x p) (digit y q) = let e = digits_det n p q in (e.0, ap (λ z. c ∷ z) e.1)
digits_det n (digit x p) (underscore q) = cc
digits_det {k = k} n (underscore p) (stop y) = let z = or-true (is_digit_of k 95) in cc
digits_det n (underscore p) (digit y q) = cc
digits_det n (underscore p) (underscore q) = digits_det n p q

pub integer_det : {k : ℕ} {t r s v w : Text} → is_digit_of k 95 ≡ false → Integer k t r v → Integer k t s w → (r ≡ s) × (v ≡ w)
integer_det n (integer {c = c} x p) (integer y q) = let e = digits_det n p q in (e.0, ap (λ z. c ∷ z) e.1)

no_base : (c k : ℕ) → base_of c ≡ Some k → is_digit_of k 95 ≡ false
unfolding is_digit_of
no_base c k h = go (c == 120 || c == 88) (c == 111 || c == 79) (c == 98 || c == 66) h
  where
    go : (x y z : Bool) → (if x then Some 16 else if y then Some 8 else if z then Some 2 else None) ≡ Some k → is_digit_of k 95 ≡ false
    go true y z h = let e : 16 ≡ k = cc in rw (← e) refl
    go false true z h = let e : 8 ≡ k = cc in rw (← e) refl
    go false false true h = let e : 2 ≡ k = cc in rw (← e) refl
    go false false false h = cc

no_underscore_digit : (c d k : ℕ) (s : Text) → base_prefix (c ∷ d ∷ s) ≡ Some k → is_digit_of k 95 ≡ false
no_underscore_digit c d k s h = go (c == 48) h
  where
    go : (b : Bool) → (if b then base_of d else None) ≡ Some k → is_digit_of k 95 ≡ false
    go true h = no_base d k h
    go false h = cc

-- `_` is a digit of none of the bases
pub no_digit : {t s : Text} {k : ℕ} → BasePrefix t s k → is_digit_of k 95 ≡ false
unfolding is_digit_of
no_digit (ten x) = refl
no_digit {k = k} (other {c = c} {d = d} {r = r} x) = no_underscore_digit c d k r x

-- what a sign, a prefix and an integer at the front of a whole number say of it
pub record Known (n : Bool) (k : ℕ) (w r v : Text) (z : ℤ) : Type 0 where
  pub left : r ≡ v
  pub ends : starts is_identifier_char r ≡ false
  pub fits : fits n (digits_value k w) ≡ true
  pub is : z ≡ signed n (digits_value k w)

pub whole_is : (t s u r w v : Text) (n : Bool) (k : ℕ) (z : ℤ) → Sign t s n → BasePrefix s u k → Integer k u r w → WholeNumber t v z → Known n k w r v z
whole_is t s u r w v n k z a b d (whole {s = s'} {u = u'} {w = w'} {negative = m} {radix = j} a' b' d' e f g) =
    let x = sign_det a a' in
    let y = base_det b (subst (λ q. BasePrefix q u' j) (sym x.0) b') in
    let d'' = subst (λ q. Integer q u' v w') (sym y.1) d' in
    let p = integer_det (no_digit b) d (subst (λ q. Integer k q v w') (sym y.0) d'') in
    let value : digits_value k w ≡ digits_value j w' = ap (λ q. digits_value q w) y.1 ∙ ap (digits_value j) p.1 in
    record { left = p.0; ends = rw p.0 e; fits = rw (x.1, value) f; is = rw (x.1, value) g }

-- a text begins with one whole number at most
pub whole_number_det : {t r s : Text} {y z : ℤ} → WholeNumber t r y → WholeNumber t s z → (r ≡ s) × (y ≡ z)
whole_number_det {t = t} (whole a b d e f g) h = let k = whole_is t _ _ _ _ _ _ _ _ a b d h in (k.left, g ∙ sym k.is)

pub shorter_sign : {t r : Text} {n : Bool} → Sign t r n → length r ≤ length t
shorter_sign (none x) = omega arith
shorter_sign plus = omega arith
shorter_sign minus = omega arith

shorter_base : {t r : Text} {k : ℕ} → BasePrefix t r k → length r ≤ length t
shorter_base (ten x) = omega arith
shorter_base (other x) = omega arith

shorter_digits : {k : ℕ} {t r w : Text} → Digits k t r w → length r ≤ length t
shorter_digits (stop x) = omega arith
shorter_digits (digit x d) = omega (arith, shorter_digits d)
shorter_digits (underscore d) = omega (arith, shorter_digits d)

pub shorter_integer : {k : ℕ} {t r w : Text} → Integer k t r w → length r < length t
shorter_integer (integer x d) = omega (arith, shorter_digits d)

-- a whole number is not empty
pub whole_number_shorter : {t r : Text} {z : ℤ} → WholeNumber t r z → length r < length t
whole_number_shorter (whole a b d e f g) = omega (arith, shorter_sign a, shorter_base b, shorter_integer d)

decimal_digit : (c : ℕ) → is_digit_of 10 c ≡ true → is_digit c ≡ true
unfolding is_digit_of
decimal_digit c h = grind (arith, nat_tests)

pub digit_here : {t r : Text} {w : Text} → Integer 10 t r w → starts is_digit t ≡ true
digit_here (integer {c = c} x d) = decimal_digit c x

base_here : (c d k : ℕ) (s : Text) → base_prefix (c ∷ d ∷ s) ≡ Some k → c ≡ 48
base_here c d k s h = grind (arith, nat_tests)

base_digit : {t u r w : Text} {k : ℕ} → BasePrefix t u k → Integer k u r w → starts is_digit t ≡ true
base_digit (ten x) d = digit_here d
base_digit (other {c = c} {d = e} {radix = k} {r = s} x) d = rw (base_here c e k s x) refl

begins_from : (s : Text) → starts is_digit s ≡ true → begins_number s ≡ true
begins_from [] h = cc
begins_from (c ∷ s) h = rw h refl

pub sign_begins : {t s : Text} {n : Bool} → Sign t s n → starts is_digit s ≡ true → begins_number t ≡ true
sign_begins {t = t} (none x) h = begins_from t h
sign_begins plus h = h
sign_begins minus h = h

-- a whole number begins with a digit, or with a sign and a digit
pub whole_number_begins : {t r : Text} {z : ℤ} → WholeNumber t r z → begins_number t ≡ true
whole_number_begins (whole a b d e f g) = sign_begins a (base_digit b d)

pub integer_digit : {k : ℕ} {t r w : Text} → Integer k t r w → starts (is_digit_of k) t ≡ true
integer_digit (integer x d) = x

-- after the sign and the prefix of a whole number is a digit of the base
pub whole_digit : (t s u v : Text) (n : Bool) (k : ℕ) (z : ℤ) → Sign t s n → BasePrefix s u k → WholeNumber t v z → starts (is_digit_of k) u ≡ true
whole_digit t s u v n k z a b (whole {s = s'} {u = u'} {w = w'} {radix = j} a' b' d' e f g) =
    let x = sign_det a a' in
    let y = base_det b (subst (λ q. BasePrefix q u' j) (sym x.0) b') in
    rw (y.0, y.1) (integer_digit d')

digit_identifier : (c : ℕ) → is_digit c ≡ true → is_identifier_char c ≡ true
unfolding is_identifier_char is_space is_newline_char is_banned is_punctuation
digit_identifier c h = grind (arith, nat_tests)

digit_no_sign : (c : ℕ) → is_digit c ≡ true → is_sign c ≡ false
digit_no_sign c h = grind (arith, nat_tests)

digit_no_point : (c : ℕ) → is_digit c ≡ true → (c == 46) ≡ false
digit_no_point c h = grind (arith, nat_tests)

digit_first : (c : ℕ) (w : Text) → is_digit c ≡ true → bare_form (c ∷ w) ≡ false
digit_first c w h = rw (digit_no_sign c h, digit_no_point c h, h) refl

digit_second : (c d : ℕ) (w : Text) → is_sign c ≡ true → is_digit d ≡ true → bare_form (c ∷ d ∷ w) ≡ false
digit_second c d w s h = rw (s, digit_no_point d h, h) refl

digit_begins : (r : Text) → starts is_digit r ≡ true → starts is_identifier_char r ≡ true
digit_begins [] h = cc
digit_begins (c ∷ r) h = digit_identifier c h

not_form : (w r : Text) → begins_number (w ++ r) ≡ true → starts is_identifier_char r ≡ false → bare_form w ≡ false
not_form [] r h n = refl
not_form (c ∷ []) r h n = go (or_cases (is_digit c) _ h)
  where
    go : (is_digit c ≡ true) ⊎ ((is_sign c && starts is_digit r) ≡ true) → bare_form (c ∷ []) ≡ false
    go (inl x) = digit_first c [] x
    go (inr x) = let y = digit_begins r (and_parts _ _ x).1 in cc
not_form (c ∷ d ∷ w) r h n = go (or_cases (is_digit c) _ h)
  where
    go : (is_digit c ≡ true) ⊎ ((is_sign c && is_digit d) ≡ true) → bare_form (c ∷ d ∷ w) ≡ false
    go (inl x) = digit_first c (d ∷ w) x
    go (inr x) = let y = and_parts _ _ x in digit_second c d w y.0 y.1

-- what begins as a number does is no bare string
pub number_not_bare : {t r w : Text} → begins_number t ≡ true → BareString t r w → ⊥
unfolding is_bare
number_not_bare {r = r} h (bare {w = w} e f n) = let x = not_form w r (rw e at h) n in let y = (and_parts (list_all is_identifier_char w) (bare_form w) f).1 in cc
