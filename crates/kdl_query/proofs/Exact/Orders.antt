-- The order of signed numbers that are multiplied.
use Rattle.std.proofs.Common.{◌≡◌, ℕ, zero, suc, ◌+◌, ◌-◌, ◌*◌, ◌/◌, ◌^◌, ◌<◌, ◌≤◌, min, Bool, true, false, ◌⊎◌, inl, inr, ℤ, pos, neg_ℤ, ◌+ℤ◌, ◌*ℤ◌, int_cmp, Less, Equal, Greater, refl, sym, ap, subst, ◌∙◌, arith, mul_assoc, mul_comm}
use Rattle.std.proofs.Math.Nat.{div-le_self, div-mul-le_self, mul-lt-mul_of_pos_right, mul-pos, le-mul_of_pos_right, min-eq_left, min-eq_right, mul-one, zero-mul}
use Rattle.std.proofs.lemmas.Int.{ints}
use Rattle.std.proofs.lemmas.Nat.{le-div, pow-add}
use Rattle.std.proofs.lemmas.Bool.{cases_lt}
use Rattle.std.specs.Ordering.{is_ne}
use Rattle.std.specs.Prelude.{◌<ℤ◌}
use Rattle.kdl_text.specs.Numbers.{signed}
use Rattle.kdl_query.specs.Decimal.{rational_order}
use Rattle.kdl_query.specs.DecimalParts.{cut_at, natural_of, whole_of, followed, raised, lowered, rational_of}
use Rattle.kdl_query.specs.declared.decimal.Decimal.{Decimal}
use Rattle.kdl_query.specs.declared.decimal.Whole.{Whole}
use Rattle.kdl_query.proofs.Exact.Digits.{ten_pos, ten_rises}

pub less : (a b : ℤ) → a <ℤ b → int_cmp a b ≡ Less
less a b h = grind (arith, ints)

pub greater : (a b : ℤ) → b <ℤ a → int_cmp a b ≡ Greater
greater a b h = grind (arith, ints)

pub equal : (a b : ℤ) → a ≡ b → int_cmp a b ≡ Equal
equal a b h = grind (arith, ints)

trichotomy : (a b : ℤ) → (a <ℤ b) ⊎ (a ≡ b) ⊎ (b <ℤ a)
trichotomy a b = grind (arith, ints)

pub same_order : (a b c d : ℤ) → (a <ℤ b → c <ℤ d) → (a ≡ b → c ≡ d) → (b <ℤ a → d <ℤ c) → int_cmp a b ≡ int_cmp c d
same_order a b c d l e g = go (trichotomy a b)
  where
    go : (a <ℤ b) ⊎ (a ≡ b) ⊎ (b <ℤ a) → int_cmp a b ≡ int_cmp c d
    go (inl h) = less a b h ∙ sym (less c d (l h))
    go (inr (inl h)) = equal a b h ∙ sym (equal c d (e h))
    go (inr (inr h)) = greater a b h ∙ sym (greater c d (g h))

-- p and q have the order of x and y, and each is 0 where the other is
pub record IsAlike (x y p q : ℕ) : Type 0 where
  less : x < y → p < q
  equal : x ≡ y → p ≡ q
  greater : y < x → q < p
  first_zero : x ≡ 0 → p ≡ 0
  first : 0 < x → 0 < p
  second_zero : y ≡ 0 → q ≡ 0
  second : 0 < y → 0 < q

pub alike_order : (s t : Bool) (x y p q : ℕ) → IsAlike x y p q → int_cmp (signed s x) (signed t y) ≡ int_cmp (signed s p) (signed t q)
alike_order false false x y p q h = same_order (pos x) (pos y) (pos p) (pos q) (λ k. let e : x < y = omega (arith, ints) in let f = h.less e in omega (arith, ints)) (λ k. let e : x ≡ y = omega (arith, ints) in let f = h.equal e in omega (arith, ints))
    (λ k. let e : y < x = omega (arith, ints) in let f = h.greater e in omega (arith, ints))
alike_order false true x y p q h = same_order (pos x) (neg_ℤ (pos y)) (pos p) (neg_ℤ (pos q)) (λ k. absurd (omega (arith, ints)))
    (λ k. let e : x ≡ 0 = omega (arith, ints) in let f : y ≡ 0 = omega (arith, ints) in let u = h.first_zero e in let v = h.second_zero f in omega (arith, ints)) (λ k. elim (cases_lt 0 x) [
      | inl e ↦ let u = h.first e in omega (arith, ints)
      | inr e ↦ let f : 0 < y = omega (arith, ints) in let u = h.second f in omega (arith, ints)
    ])
alike_order true false x y p q h = same_order (neg_ℤ (pos x)) (pos y) (neg_ℤ (pos p)) (pos q) (λ k. elim (cases_lt 0 x) [
  | inl e ↦ let u = h.first e in omega (arith, ints)
  | inr e ↦ let f : 0 < y = omega (arith, ints) in let u = h.second f in omega (arith, ints)
]) (λ k. let e : x ≡ 0 = omega (arith, ints) in let f : y ≡ 0 = omega (arith, ints) in let u = h.first_zero e in let v = h.second_zero f in omega (arith, ints)) (λ k. absurd (omega (arith, ints)))
alike_order true true x y p q h = same_order (neg_ℤ (pos x)) (neg_ℤ (pos y)) (neg_ℤ (pos p)) (neg_ℤ (pos q)) (λ k. let e : y < x = omega (arith, ints) in let f = h.greater e in omega (arith, ints))
    (λ k. let e : x ≡ y = omega (arith, ints) in let f = h.equal e in omega (arith, ints)) (λ k. let e : x < y = omega (arith, ints) in let f = h.less e in omega (arith, ints))

swapped : (x y p q : ℕ) → IsAlike x y p q → IsAlike y x q p
swapped x y p q h = record { less = h.greater; equal = λ e. sym (h.equal (sym e)); greater = h.less; first_zero = h.second_zero; first = h.second; second_zero = h.first_zero; second = h.first }

chained : (x y p q m n : ℕ) → IsAlike x y p q → IsAlike p q m n → IsAlike x y m n
chained x y p q m n h k = record {
  less = λ e. k.less (h.less e);
  equal = λ e. k.equal (h.equal e);
  greater = λ e. k.greater (h.greater e);
  first_zero = λ e. k.first_zero (h.first_zero e);
  first = λ e. k.first (h.first e);
  second_zero = λ e. k.second_zero (h.second_zero e);
  second = λ e. k.second (h.second e);
}

scaled : (x y k : ℕ) → 0 < k → IsAlike x y (x * k) (y * k)
scaled x y k h = record {
  less = λ e. mul-lt-mul_of_pos_right e h;
  equal = λ e. ap (λ z. z * k) e;
  greater = λ e. mul-lt-mul_of_pos_right e h;
  first_zero = λ e. ap (λ z. z * k) e ∙ zero-mul k;
  first = λ e. mul-pos e h;
  second_zero = λ e. ap (λ z. z * k) e ∙ zero-mul k;
  second = λ e. mul-pos e h;
}

-- two numbers that are both above n
far : (n x y : ℕ) → n < x → n < y → IsAlike x n y n
far n x y h k = record { less = λ e. absurd (omega arith); equal = λ e. absurd (omega arith); greater = λ e. k; first_zero = λ e. absurd (omega arith); first = λ e. omega arith; second_zero = λ e. e; second = λ e. e }

itself : (x n : ℕ) → IsAlike x n x n
itself x n = record { less = λ e. e; equal = λ e. e; greater = λ e. e; first_zero = λ e. e; first = λ e. e; second_zero = λ e. e; second = λ e. e }

above : (m n p d : ℕ) → 0 < m → n < 10 ^ p → p ≤ d → n < m * 10 ^ d
above m n p d h small high =
    let one : 10 ^ d ≤ 10 ^ d * m = le-mul_of_pos_right (10 ^ d) h in
    let two : 10 ^ d ≤ m * 10 ^ d = subst (λ (z : ℕ). 10 ^ d ≤ z) (mul_comm (10 ^ d) m) one in
    let three : 10 ^ p ≤ 10 ^ d = ten_rises p d high in
    omega arith

-- more zeros than the other number has places change nothing
capped : (m n d p : ℕ) → n < 10 ^ p → IsAlike (m * 10 ^ min d p) n (m * 10 ^ d) n
capped m n d p small = go (cases_lt p d) (cases_lt 0 m)
  where
    nothing : (i : ℕ) → m ≤ 0 → m * 10 ^ i ≡ 0
    nothing i h = let e : m ≡ 0 = omega arith in ap (λ z. z * 10 ^ i) e ∙ zero-mul (10 ^ i)

    go : (p < d) ⊎ (d ≤ p) → (0 < m) ⊎ (m ≤ 0) → IsAlike (m * 10 ^ min d p) n (m * 10 ^ d) n
    go (inr h) k = subst (λ (i : ℕ). IsAlike (m * 10 ^ i) n (m * 10 ^ d) n) (sym (min-eq_left h)) (itself (m * 10 ^ d) n)
    go (inl h) (inl k) =
        let h' : p ≤ d = omega arith in
        let self : p ≤ p = omega arith in
        subst (λ (i : ℕ). IsAlike (m * 10 ^ i) n (m * 10 ^ d) n) (sym (min-eq_right h')) (far n (m * 10 ^ p) (m * 10 ^ d) (above m n p p k small self) (above m n p d k small h'))
    go (inl h) (inr k) = subst (λ (z : ℕ). IsAlike z n (m * 10 ^ d) n) (sym (nothing (min d p) k)) (subst (λ (z : ℕ). IsAlike 0 n z n) (sym (nothing d k)) (itself 0 n))

aligned : (m n x y p q : ℕ) → n < 10 ^ p → y ≤ x → IsAlike (m * 10 ^ min (x - y) p) (n * 10 ^ min (y - x) q) (m * 10 ^ x) (n * 10 ^ y)
aligned m n x y p q small h =
    let d = x - y in
    let none : y - x ≡ 0 = omega arith in
    let low : 0 ≤ q = omega arith in
    let bare : n * 10 ^ min (y - x) q ≡ n = ap (λ z. n * 10 ^ min z q) none ∙ ap (λ z. n * 10 ^ z) (min-eq_left low) ∙ mul-one n in
    let same : d + y ≡ x = omega arith in
    let power : m * 10 ^ d * 10 ^ y ≡ m * 10 ^ x = mul_assoc m (10 ^ d) (10 ^ y) ∙ ap (λ z. m * z) (sym (pow-add 10 d y) ∙ ap (λ z. 10 ^ z) same) in
    let one : IsAlike (m * 10 ^ min d p) n (m * 10 ^ d * 10 ^ y) (n * 10 ^ y) = chained _ _ _ _ _ _ (capped m n d p small) (scaled (m * 10 ^ d) n (10 ^ y) (ten_pos y)) in
    subst (λ (z : ℕ). IsAlike (m * 10 ^ min d p) z (m * 10 ^ x) (n * 10 ^ y)) (sym bare) (subst (λ (z : ℕ). IsAlike (m * 10 ^ min d p) n z (n * 10 ^ y)) power one)

-- two numbers of at most p and q places, with the zeros that bring their last digits to one place
pub in_line : (m n x y p q : ℕ) → n < 10 ^ p → m < 10 ^ q → IsAlike (m * 10 ^ min (x - y) p) (n * 10 ^ min (y - x) q) (m * 10 ^ x) (n * 10 ^ y)
in_line m n x y p q small little = go (cases_lt x y)
  where
    go : (x < y) ⊎ (y ≤ x) → IsAlike (m * 10 ^ min (x - y) p) (n * 10 ^ min (y - x) q) (m * 10 ^ x) (n * 10 ^ y)
    go (inl h) = let le : x ≤ y = omega arith in swapped _ _ _ _ (aligned n m y x q p little le)
    go (inr h) = aligned m n x y p q small h

-- a signed number times a power of 10
pub signed_times : (s : Bool) (m k : ℕ) → signed s m *ℤ pos k ≡ signed s (m * k)
signed_times false m k = refl
signed_times true zero k = ap pos (zero-mul k) ∙ sym (ap (λ z. neg_ℤ (pos z)) (zero-mul k))
signed_times true (suc m) k = refl

-- ---- the first place where two numbers differ

div_less : (m n k : ℕ) → 0 < k → m / k < n / k → m < n
div_less m n k p h = elim (cases_lt m n) [
  | inl e ↦ e
  | inr e ↦ let low = div-mul-le_self n k in let under : n / k ≤ m / k = le-div (n / k) m k p (omega arith) in absurd (omega arith)
]

cut_order : (s t : Bool) (m n k : ℕ) → 0 < k → signed s (m / k) <ℤ signed t (n / k) → signed s m <ℤ signed t n
cut_order false false m n k p h = let l : m < n = div_less m n k p (omega (arith, ints)) in omega (arith, ints)
cut_order false true m n k p h = absurd (omega (arith, ints))
cut_order true false m n k p h = let l : m / k ≤ m = div-le_self m k in let r : n / k ≤ n = div-le_self n k in omega (arith, ints)
cut_order true true m n k p h = let l : n < m = div_less n m k p (omega (arith, ints)) in omega (arith, ints)

-- numbers whose digits are the same before a place have the order of the digits there, if these differ
pub settled : (a b : Whole) (place next : ℕ) (r s x y : ℤ) → x ≡ r → y ≡ s → next ≡ place + 1 → cut_at a next ≡ cut_at b next → cut_at a place ≡ (cut_at a (place + 1) *ℤ pos 10) +ℤ r → cut_at b place ≡ (cut_at b (place + 1) *ℤ pos 10) +ℤ s
    → is_ne (int_cmp x y) ≡ true → int_cmp x y ≡ int_cmp (whole_of a) (whole_of b)
settled a b place next r s x y er es at same ea eb differ =
    let alike : cut_at a (place + 1) ≡ cut_at b (place + 1) = rw (at) at same in
    same_order x y (whole_of a) (whole_of b)
    (λ l. cut_order a.negative b.negative (natural_of a.digits * 10 ^ a.zeros) (natural_of b.digits * 10 ^ b.zeros) (10 ^ place) (ten_pos place) (omega (arith, ints)))
    (λ e. let clash : false ≡ true = sym (ap is_ne (equal x y e)) ∙ differ in absurd (cc))
    (λ g. cut_order b.negative a.negative (natural_of b.digits * 10 ^ b.zeros) (natural_of a.digits * 10 ^ a.zeros) (10 ^ place) (ten_pos place) (omega (arith, ints)))

raised_by : (s : Bool) (m x y : ℕ) → signed s (m * 10 ^ x) *ℤ pos (10 ^ y) ≡ signed s (m * 10 ^ (x + y))
raised_by s m x y = signed_times s (m * 10 ^ x) (10 ^ y) ∙ ap (signed s) (mul_assoc m (10 ^ x) (10 ^ y) ∙ ap (λ z. m * z) (sym (pow-add 10 x y)))

-- the order of two decimals is that of two whole numbers whose last digits are at one place
pub order_is : (a b : Decimal) (p q i j : ℕ) → natural_of a.digits < 10 ^ q → natural_of b.digits < 10 ^ p → i ≡ min ((raised a + lowered b) - (raised b + lowered a)) p → j ≡ min ((raised b + lowered a) - (raised a + lowered b)) q
    → int_cmp (whole_of (followed a i)) (whole_of (followed b j)) ≡ rational_order (rational_of a) (rational_of b)
order_is a b p q i j little small ei ej =
    let x = raised a + lowered b in
    let y = raised b + lowered a in
    let m = natural_of a.digits in
    let n = natural_of b.digits in
    ap (λ k. int_cmp (signed a.negative (m * 10 ^ k)) (whole_of (followed b j))) ei ∙ ap (λ k. int_cmp (signed a.negative (m * 10 ^ min (x - y) p)) (signed b.negative (n * 10 ^ k))) ej
    ∙ alike_order a.negative b.negative (m * 10 ^ min (x - y) p) (n * 10 ^ min (y - x) q) (m * 10 ^ x) (n * 10 ^ y) (in_line m n x y p q small little)
    ∙ ap (λ z. int_cmp z (signed b.negative (n * 10 ^ y))) (sym (raised_by a.negative m (raised a) (lowered b)))
    ∙ ap (λ z. int_cmp (signed a.negative (m * 10 ^ raised a) *ℤ pos (10 ^ lowered b)) z) (sym (raised_by b.negative n (raised b) (lowered a)))
