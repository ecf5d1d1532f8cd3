-- The digits of numbers in parts.
use Rattle.std.proofs.Common.{◌≡◌, ℕ, ◌+◌, ◌-◌, ◌*◌, ◌/◌, ◌%◌, ◌^◌, ◌<◌, ◌≤◌, Bool, true, false, List, ◌++◌, length, inl, inr, if◌then◌else◌, ℤ, pos, neg_ℤ, ◌+ℤ◌, ◌-ℤ◌, ◌*ℤ◌, Bor, refl, sym, ap, subst, ◌∙◌, arith, length-append}
use Rattle.std.proofs.Math.Nat.{mul-lt-mul_of_pos_right, add-zero, div-one, mul-one}
use Rattle.std.proofs.lemmas.Bool.{and_from}
use Rattle.std.proofs.lemmas.Int.{ints}
use Rattle.std.proofs.lemmas.List.Folds.{list_all-append}
use Rattle.std.proofs.lemmas.Nat.{pow-add}
use Rattle.std.specs.List.{list_all}
use Rattle.std.specs.Str.Parse.{digits_value}
use Rattle.kdl_text.specs.Chars.{is_digit}
use Rattle.kdl_text.specs.Numbers.{signed}
use Rattle.kdl_query.specs.DecimalParts.{natural_of, IsDigits, cut_at, whole_of, Clamps, exponent, raised, lowered}
use Rattle.kdl_query.specs.declared.decimal.Digits.{Digits}
use Rattle.kdl_query.specs.declared.decimal.Digits.TheVariants.{Number, Text as DigitText}
use Rattle.kdl_query.specs.declared.decimal.Whole.{Whole}
use Rattle.kdl_query.specs.declared.decimal.Decimal.{Decimal}
use Rattle.kdl_query.proofs.Exact.Digits.{ten_pos, value_append, value_below, none_above, low_digits, high_digits, next_place}

-- ---- digits

pub number_below : (d : Digits) (n : ℕ) → d ≡ Number n → IsDigits d → n < 10 ^ 39
number_below d n e h = let k : n < 2 ^ 128 = subst IsDigits e h in omega arith

pub number_absent : (d : Digits) (n place : ℕ) → d ≡ Number n → IsDigits d → 39 ≤ place → 0 ≡ natural_of d / 10 ^ place % 10
number_absent d n place e h high = ap (λ z. z % 10) (sym (none_above n 39 place (number_below d n e h) high)) ∙ ap (λ (x : Digits). natural_of x / 10 ^ place % 10) (sym e)

module _ (d : Digits) (w f : Bor (List ℕ)) (e : d ≡ DigitText w f) (h : IsDigits d) where
  both : IsDigits (DigitText w f)
  both = subst IsDigits e h

  pub text_below : natural_of d < 10 ^ (length w.now + length f.now)
  text_below =
      let all : list_all is_digit (w.now ++ f.now) ≡ true = list_all-append is_digit w.now f.now ∙ and_from (list_all is_digit w.now) (list_all is_digit f.now) both.0 both.1 in
      let k : digits_value 10 (w.now ++ f.now) < 10 ^ length (w.now ++ f.now) = value_below (w.now ++ f.now) all in
      let l : natural_of d < 10 ^ length (w.now ++ f.now) = subst (λ (x : Digits). natural_of x < 10 ^ length (w.now ++ f.now)) (sym e) k in
      subst (λ (i : ℕ). natural_of d < 10 ^ i) (length-append w.now f.now) l

  parted : natural_of d ≡ digits_value 10 w.now * 10 ^ length f.now + digits_value 10 f.now
  parted = ap natural_of e ∙ value_append w.now f.now

  pub text_low : (r place : ℕ) → place < length f.now → r ≡ digits_value 10 f.now / 10 ^ place % 10 → r ≡ natural_of d / 10 ^ place % 10
  text_low r place low k = k ∙ sym (low_digits (digits_value 10 w.now) (digits_value 10 f.now) (length f.now) place low) ∙ ap (λ z. z / 10 ^ place % 10) (sym parted)

  pub text_high : (r place : ℕ) → length f.now ≤ place → r ≡ digits_value 10 w.now / 10 ^ (place - length f.now) % 10 → r ≡ natural_of d / 10 ^ place % 10
  text_high r place high k =
      k ∙ ap (λ z. z % 10) (sym (high_digits (digits_value 10 w.now) (digits_value 10 f.now) (length f.now) place (value_below f.now both.1) high)) ∙ ap (λ z. z / 10 ^ place % 10) (sym parted)

-- ---- whole numbers with zeros

no_value : (s : Bool) → signed s 0 ≡ pos 0
no_value true = refl
no_value false = refl

pub cut_none : (w : Whole) (k place : ℕ) → natural_of w.digits < 10 ^ k → k + w.zeros ≤ place → cut_at w place ≡ pos 0
cut_none w k place small high =
    let n = natural_of w.digits in
    let below : n * 10 ^ w.zeros < 10 ^ k * 10 ^ w.zeros = mul-lt-mul_of_pos_right small (ten_pos w.zeros) in
    let under : n * 10 ^ w.zeros < 10 ^ (k + w.zeros) = subst (λ (z : ℕ). n * 10 ^ w.zeros < z) (sym (pow-add 10 k w.zeros)) below in
    ap (signed w.negative) (none_above (n * 10 ^ w.zeros) (k + w.zeros) place under high) ∙ no_value w.negative

signed_digit : (s : Bool) (t d : ℕ) → signed s (t * 10 + d) ≡ (signed s t *ℤ pos 10) +ℤ signed s d
signed_digit true t d = omega (arith, ints)
signed_digit false t d = omega (arith, ints)

-- one digit of a whole number more
pub one_more : (w : Whole) (place d : ℕ) (r : ℤ) → d ≡ natural_of w.digits * 10 ^ w.zeros / 10 ^ place % 10 → r ≡ signed w.negative d → cut_at w place ≡ (cut_at w (place + 1) *ℤ pos 10) +ℤ r
one_more w place d r is as_signed =
    let x = natural_of w.digits * 10 ^ w.zeros in
    let t = x / 10 ^ (place + 1) in
    let next : x / 10 ^ place ≡ t * 10 + d = next_place x place ∙ ap (λ z. t * 10 + z) (sym is) in
    ap (signed w.negative) next ∙ signed_digit w.negative t d ∙ ap (λ z. (signed w.negative t *ℤ pos 10) +ℤ z) (sym as_signed)

bare : (n z : ℕ) → n * 10 ^ z ≡ n * 10 ^ z + 0
bare n z = sym (add-zero (n * 10 ^ z))

-- a zero of its end
pub zero_more : (w : Whole) (place : ℕ) → place < w.zeros → cut_at w place ≡ (cut_at w (place + 1) *ℤ pos 10) +ℤ pos 0
zero_more w place low =
    let n = natural_of w.digits in
    let none : 0 / 10 ^ place ≡ 0 = none_above 0 0 place (omega arith) (omega arith) in
    let is : 0 ≡ n * 10 ^ w.zeros / 10 ^ place % 10 = sym (ap (λ z. z / 10 ^ place % 10) (bare n w.zeros) ∙ low_digits n 0 w.zeros place low ∙ ap (λ z. z % 10) none) in
    one_more w place 0 (pos 0) is (sym (no_value w.negative))

-- a digit before the zeros
pub digit_more : (w : Whole) (place d : ℕ) (r : ℤ) → w.zeros ≤ place → d ≡ natural_of w.digits / 10 ^ (place - w.zeros) % 10 → r ≡ signed w.negative d → cut_at w place ≡ (cut_at w (place + 1) *ℤ pos 10) +ℤ r
digit_more w place d r high is as_signed =
    let n = natural_of w.digits in
    let same : n * 10 ^ w.zeros / 10 ^ place ≡ n / 10 ^ (place - w.zeros) = ap (λ z. z / 10 ^ place) (bare n w.zeros) ∙ high_digits n 0 w.zeros place (ten_pos w.zeros) high in
    one_more w place d r (is ∙ ap (λ z. z % 10) (sym same)) as_signed

-- ---- differences

pub next_difference : (a b : Whole) (place q : ℕ) (r s x y d : ℤ) → s ≡ r → q + 1 ≡ place → cut_at a q ≡ (cut_at a (q + 1) *ℤ pos 10) +ℤ x → cut_at b q ≡ (cut_at b (q + 1) *ℤ pos 10) +ℤ y
    → Clamps (2 ^ 100) r (((cut_at a place -ℤ cut_at b place) *ℤ pos 10) +ℤ d) → d ≡ x -ℤ y → Clamps (2 ^ 100) s (cut_at a q -ℤ cut_at b q)
next_difference a b place q r s x y d same at ea eb h ed =
    let u = cut_at a (q + 1) in
    let v = cut_at b (q + 1) in
    let told : Clamps (2 ^ 100) s (((u -ℤ v) *ℤ pos 10) +ℤ d) = rw (same, at) h in
    let apart : (p t : ℤ) → (((p -ℤ t) *ℤ pos 10) +ℤ d) ≡ ((p *ℤ pos 10) +ℤ x) -ℤ ((t *ℤ pos 10) +ℤ y) = λ p t. omega (arith, ints) in
    rw (ea, eb) (subst (λ (z : ℤ). Clamps (2 ^ 100) s z) (apart u v) told)

pub cut_whole : (w : Whole) (place : ℕ) → place ≤ 0 → cut_at w place ≡ whole_of w
cut_whole w place h =
    let e : place ≡ 0 = omega arith in
    ap (λ i. cut_at w i) e ∙ ap (signed w.negative) (div-one (natural_of w.digits * 10 ^ w.zeros))

pub last_difference : (a b : Whole) (place : ℕ) (r : ℤ) → place ≤ 0 → Clamps (2 ^ 100) r (cut_at a place -ℤ cut_at b place) → Clamps (2 ^ 100) r (whole_of a -ℤ whole_of b)
last_difference a b place r h k = rw (← cut_whole a place h, ← cut_whole b place h) k

pub clamps_as : (limit : ℕ) (r s z : ℤ) → s ≡ r → Clamps limit r z → Clamps limit s z
clamps_as limit r s z e h = subst (λ (t : ℤ). Clamps limit t z) (sym e) h

-- ---- exponents

exponent_by : (b : Bool) (n s : ℕ) → signed b n ≡ (pos (if b then 0 else n) +ℤ pos s) -ℤ pos (s + (if b then n else 0))
exponent_by true n s = omega (arith, ints)
exponent_by false n s = omega (arith, ints)

exponent_is : (d : Decimal) → whole_of (exponent d) ≡ (pos (raised d) +ℤ pos d.scale) -ℤ pos (lowered d)
exponent_is d = ap (signed d.lowers) (mul-one (natural_of d.power)) ∙ exponent_by d.lowers (natural_of d.power) d.scale

moved : (r s v w : ℤ) (x y p q i j : ℕ) → Clamps (2 ^ 100) r (v -ℤ w) → v ≡ (pos x +ℤ pos i) -ℤ pos p → w ≡ (pos y +ℤ pos j) -ℤ pos q → i < 2 ^ 63 → j < 2 ^ 63 → s ≡ (r +ℤ pos j) -ℤ pos i
    → Clamps (2 ^ 99) s (pos (x + q) -ℤ pos (y + p))
moved r s v w x y p q i j (inl h) ev ew li lj es = inl (omega (arith, ints))
moved r s v w x y p q i j (inr (inl h)) ev ew li lj es = let (g, k) = h in inr (inl (omega (arith, ints), omega (arith, ints)))
moved r s v w x y p q i j (inr (inr h)) ev ew li lj es = let (g, k) = h in inr (inr (omega (arith, ints), omega (arith, ints)))

pub shift_is : (a b : Decimal) (r s : ℤ) → Clamps (2 ^ 100) r (whole_of (exponent a) -ℤ whole_of (exponent b)) → a.scale < 2 ^ 63 → b.scale < 2 ^ 63 → s ≡ (r +ℤ pos b.scale) -ℤ pos a.scale
    → Clamps (2 ^ 99) s (pos (raised a + lowered b) -ℤ pos (raised b + lowered a))
shift_is a b r s h li lj es = moved r s (whole_of (exponent a)) (whole_of (exponent b)) (raised a) (raised b) (lowered a) (lowered b) a.scale b.scale h (exponent_is a) (exponent_is b) li lj es

pub turned : (s t : ℤ) (x y : ℕ) → t ≡ neg_ℤ s → Clamps (2 ^ 99) s (pos x -ℤ pos y) → Clamps (2 ^ 99) t (pos y -ℤ pos x)
turned s t x y e (inl h) = inl (omega (arith, ints))
turned s t x y e (inr (inl h)) = let (g, k) = h in inr (inr (omega (arith, ints), omega (arith, ints)))
turned s t x y e (inr (inr h)) = let (g, k) = h in inr (inl (omega (arith, ints), omega (arith, ints)))
