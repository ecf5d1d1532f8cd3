-- Decimals: a text begins with one at most, and with no whole number beside it.
use Rattle.std.proofs.Common.{◌≡◌, ℕ, ◌<◌, ◌≤◌, ◌∷◌, ◌++◌, Bool, true, false, ◌||◌, ◌==◌, length, refl, ap, sym, ◌∙◌, subst, arith, ℤ, Some, None, ◌⊎◌, inl, inr}
use Rattle.std.proofs.lemmas.Bool.{eqb-true, or_cases}
use Rattle.std.specs.Prelude.{if◌then◌else◌}
use Rattle.std.proofs.lemmas.Bool.Decides.{nat_tests}
use Rattle.std.proofs.lemmas.List.{append_cancel_right}
use Rattle.kdl_text.specs.Chars.{Text, is_identifier_char, is_space, is_newline_char, is_banned, is_punctuation, starts}
use Rattle.kdl_text.specs.Numbers.{is_digit_of, Sign, BasePrefix, Digits, Integer, WholeNumber, whole, integer, base_of, base_prefix, Fraction, Exponent, is_exponent_letter, DecimalPart, part, plain, Decimal, decimal, IsNumber, is_whole, is_decimal, NumberValue, whole_value, decimal_text, begins_number}
use Rattle.kdl_text.specs.Numbers.BasePrefix.{ten, other}
use Rattle.kdl_text.specs.Numbers.Digits.{stop, digit, underscore}
use Rattle.kdl_text.specs.Numbers.Fraction.{none as no_fraction, fraction}
use Rattle.kdl_text.specs.Numbers.Exponent.{none as no_exponent, exponent}
use Rattle.kdl_text.proofs.Numeric.NumberUnique.{sign_det, integer_det, whole_number_det, whole_number_begins, whole_number_shorter, shorter_integer, shorter_sign, digit_here, sign_begins}

ten_underscore : is_digit_of 10 95 ≡ false
unfolding is_digit_of
ten_underscore = refl

pub fraction_det : {t r s : Text} {a b : Bool} → Fraction t r a → Fraction t s b → (r ≡ s) × (a ≡ b)
fraction_det (no_fraction x) (no_fraction y) = (refl, refl)
fraction_det (no_fraction x) (fraction i) = cc
fraction_det (fraction i) (no_fraction x) = cc
fraction_det (fraction i) (fraction j) = ((integer_det ten_underscore i j).0, refl)

exponent_det : {t r s : Text} {a b : Bool} → Exponent t r a → Exponent t s b → (r ≡ s) × (a ≡ b)
exponent_det (no_exponent x) (no_exponent y) = (refl, refl)
exponent_det (no_exponent x) (exponent y g i) = cc
exponent_det (exponent x f i) (no_exponent y) = cc
exponent_det (exponent x f i) (exponent {s = s} {t = u} {r = r} {w = w} y g j) = ((integer_det ten_underscore i (subst (λ q. Integer 10 q r w) (sym (sign_det f g).0) j)).0, refl)

-- the parts that make a decimal, where its fraction and its exponent are known
pub record KnownPart (s r : Text) (a b : Bool) (v : Text) : Type 0 where
  pub left : r ≡ v
  pub either : (a || b) ≡ true
  pub ends : starts is_identifier_char r ≡ false

pub part_is : (t s r v : Text) (a b : Bool) → Fraction t s a → Exponent s r b → DecimalPart t v → KnownPart s r a b v
part_is t s r v a b f e (part {s = u} {r = w} {point = c} {power = d} g h x y) =
    let p = fraction_det f g in
    let q = exponent_det e (subst (λ z. Exponent z w d) (sym p.0) h) in
    record { left = q.0; either = rw (p.1, q.1) x; ends = rw q.0 y }

pub part_det : {t r s : Text} → DecimalPart t r → DecimalPart t s → r ≡ s
part_det (part {s = u} {r = w} {point = c} {power = d} f e x y) h = (part_is _ u w _ c d f e h).left

point_identifier : is_identifier_char 46 ≡ true
unfolding is_identifier_char is_space is_newline_char is_banned is_punctuation
point_identifier = refl

e_identifier : is_identifier_char 101 ≡ true
unfolding is_identifier_char is_space is_newline_char is_banned is_punctuation
e_identifier = refl

large_e_identifier : is_identifier_char 69 ≡ true
unfolding is_identifier_char is_space is_newline_char is_banned is_punctuation
large_e_identifier = refl

exponent_identifier : (c : ℕ) → is_exponent_letter c ≡ true → is_identifier_char c ≡ true
exponent_identifier c h = go (or_cases (c == 101) _ h)
  where
    go : ((c == 101) ≡ true) ⊎ ((c == 69) ≡ true) → is_identifier_char c ≡ true
    go (inl x) = rw (eqb-true c 101 x) e_identifier
    go (inr x) = rw (eqb-true c 69 x) large_e_identifier

-- what makes a decimal of an integer begins with an identifier character
pub part_begins : {t r : Text} → DecimalPart t r → starts is_identifier_char t ≡ true
part_begins (part (fraction i) e x y) = point_identifier
part_begins (part (no_fraction x) (exponent {c = c} y g i) z w) = exponent_identifier c y
part_begins (part (no_fraction x) (no_exponent y) z w) = cc

record Letter (c : ℕ) : Type 0 where
  point : (c == 46) ≡ false
  underscore : (c == 95) ≡ false
  power : is_exponent_letter c ≡ false
  digit : is_digit_of 10 c ≡ false

letter : (c k : ℕ) → base_of c ≡ Some k → Letter c
unfolding is_digit_of
letter c k h = record { point = grind (arith, nat_tests); underscore = grind (arith, nat_tests); power = grind (arith, nat_tests); digit = grind (arith, nat_tests) }

base_letter : (c d k : ℕ) (s : Text) → base_prefix (c ∷ d ∷ s) ≡ Some k → Letter d
base_letter c d k s h = go (c == 48) h
  where
    go : (b : Bool) → (if b then base_of d else None) ≡ Some k → Letter d
    go true h = letter d k h
    go false h = cc

no_part : {d : ℕ} {q r : Text} → Letter d → DecimalPart (d ∷ q) r → ⊥
no_part l (part (fraction i) e x y) = let h = l.point in cc
no_part l (part (no_fraction x) (exponent y g i) z w) = let h = l.power in cc
no_part l (part (no_fraction x) (no_exponent y) z w) = cc

no_more : {d : ℕ} {q u v r : Text} → Letter d → Digits 10 (d ∷ q) u v → DecimalPart u r → ⊥
no_more l (stop x) p = no_part l p
no_more l (digit x i) p = let h = l.digit in cc
no_more l (underscore i) p = let h = l.underscore in cc

no_base_part : {c d k : ℕ} {q u v r : Text} → base_prefix (c ∷ d ∷ q) ≡ Some k → Integer 10 (c ∷ d ∷ q) u v → DecimalPart u r → ⊥
no_base_part {c = c} {d = d} {k = k} {q = q} h (integer x i) p = no_more (base_letter c d k q h) i p

-- base 10 has no prefix
pub no_ten : (c d : ℕ) (s : Text) → base_prefix (c ∷ d ∷ s) ≡ Some 10 → ⊥
no_ten c d s h = grind (arith, nat_tests)

-- a decimal has no prefix of another base
pub base_is_ten : {s u v r x : Text} {k : ℕ} → Integer 10 s u v → DecimalPart u r → BasePrefix s x k → (x ≡ s) × (k ≡ 10)
base_is_ten i p (ten h) = (refl, refl)
base_is_ten i p (other h) = absurd (no_base_part h i p)

-- after its sign, its prefix and its first integer a decimal goes on
pub part_of : (t s u r w v : Text) (n : Bool) (k : ℕ) (x : Text) → Sign t s n → BasePrefix s u k → Integer k u r w → Decimal t v x → (k ≡ 10) × DecimalPart r v
part_of t s u r w v n k x a b d (decimal {s = s'} {u = u'} {v = w'} p a' i e f g) =
    let y = sign_det a a' in
    let i' = subst (λ q. Integer 10 q u' w') (sym y.0) i in
    let m = base_is_ten i' e b in
    let d' = subst (λ q. Integer q s r w) m.1 (subst (λ q. Integer k q r w) m.0 d) in
    (m.1, subst (λ q. DecimalPart q v) (sym (integer_det ten_underscore d' i').0) e)

-- a text begins with one decimal at most
pub decimal_det : {t r s v w : Text} → Decimal t r v → Decimal t s w → (r ≡ s) × (v ≡ w)
decimal_det {t = t} {r = r} {s = s} (decimal {s = s'} {u = u'} {v = w'} p a i e f g) (decimal {s = s''} {u = u''} {v = w''} q b j h k l) =
    let x = sign_det a b in
    let y = integer_det ten_underscore i (subst (λ z. Integer 10 z u'' w'') (sym x.0) j) in
    let same : r ≡ s = part_det e (subst (λ z. DecimalPart z s) (sym y.0) h) in
    (same, g ∙ ap plain (append_cancel_right p q s (ap (λ z. p ++ z) (sym same) ∙ sym f ∙ k)) ∙ sym l)

-- no text begins with a whole number and a decimal
pub whole_or_decimal : {t r s w : Text} {z : ℤ} → WholeNumber t r z → Decimal t s w → ⊥
whole_or_decimal {t = t} {r = r} {s = s} {w = w} (whole {s = s'} {u = u} {w = d} {negative = n} {radix = k} a b i e f g) h =
    let x = part_begins (part_of t s' u r d s n k w a b i h).1 in cc

-- a text begins with one number at most
pub number_det : {t r s : Text} {x y : NumberValue} → IsNumber t r x → IsNumber t s y → (r ≡ s) × (x ≡ y)
number_det (is_whole a) (is_whole b) = let e = whole_number_det a b in (e.0, ap whole_value e.1)
number_det (is_whole a) (is_decimal b) = absurd (whole_or_decimal a b)
number_det (is_decimal a) (is_whole b) = absurd (whole_or_decimal b a)
number_det (is_decimal a) (is_decimal b) = let e = decimal_det a b in (e.0, ap decimal_text e.1)

shorter_fraction : {t r : Text} {b : Bool} → Fraction t r b → length r ≤ length t
shorter_fraction (no_fraction x) = omega arith
shorter_fraction (fraction i) = omega (arith, shorter_integer i)

shorter_exponent : {t r : Text} {b : Bool} → Exponent t r b → length r ≤ length t
shorter_exponent (no_exponent x) = omega arith
shorter_exponent (exponent x g i) = omega (arith, shorter_sign g, shorter_integer i)

shorter_part : {t r : Text} → DecimalPart t r → length r ≤ length t
shorter_part (part f e x y) = omega (arith, shorter_fraction f, shorter_exponent e)

decimal_shorter : {t r w : Text} → Decimal t r w → length r < length t
decimal_shorter (decimal p a i e f g) = omega (arith, shorter_sign a, shorter_integer i, shorter_part e)

-- a number is not empty
pub number_shorter : {t r : Text} {x : NumberValue} → IsNumber t r x → length r < length t
number_shorter (is_whole w) = whole_number_shorter w
number_shorter (is_decimal d) = decimal_shorter d

-- a number begins with a digit, or with a sign and a digit
pub number_begins : {t r : Text} {x : NumberValue} → IsNumber t r x → begins_number t ≡ true
number_begins (is_whole w) = whole_number_begins w
number_begins (is_decimal (decimal p a i e f g)) = sign_begins a (digit_here i)
