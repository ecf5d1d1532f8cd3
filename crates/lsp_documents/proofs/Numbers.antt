-- The whole number that the text of a number is.
use Rattle.std.proofs.Common.{arith, zero, suc, true, false, ◌≡◌, ◌∙◌, ℕ, ◌+◌, ◌-◌, ◌*◌, ◌^◌, ◌%◌, ◌/◌, ◌<◌, ◌≤◌, Bool, List, Option, None, Some, ◌↔◌, codes, [], ◌∷◌, ◌++◌, inl, inr, length, length-append, refl, sym, ap, subst, drop, take, unwrap_or, if◌then◌else◌}
use Rattle.std.proofs.Math.Nat.{add-mul, mul-div_cancel, mul-mod_left, mul_assoc, pow-le-pow_right, pow-succ'}
use Rattle.std.proofs.lemmas.Bool.{cases_lt}
use Rattle.std.proofs.lemmas.Int.Digits.{digits_value-lt, digits_value_push}
use Rattle.std.proofs.lemmas.List.{append-nil, append_assoc, drop_all, length-drop, take-append-drop, take_all}
use Rattle.std.proofs.lemmas.Nat.{mod-mul-add, pow-add}
use Rattle.std.specs.Char.{digit_value}
use Rattle.std.specs.Str.Parse.{AllDigits, digits_value}
use Rattle.std.specs.Float.Numeral.{scan_numeral}
use Rattle.std.specs.Option.{SomeIff}
use Rattle.fast_float.specs.Text.{IsWhole, Parts, digits_of, has_digits, scan, tens_down, tens_up, whole_of}
use Rattle.lsp_documents.specs.Notes.{IsNatural}

abbrev value : List ℕ → ℕ
value = digits_value 10

digits_after : (n : ℕ) (ds : List ℕ) → AllDigits 10 ds → AllDigits 10 (drop n ds)
digits_after zero ds h = h
digits_after (suc n) [] h = tt
digits_after (suc n) (d ∷ ds) h = digits_after n ds h.1

all_digits : (ds es : List ℕ) → AllDigits 10 ds → AllDigits 10 es → AllDigits 10 (ds ++ es)
all_digits [] es p q = q
all_digits (d ∷ ds) es p q = (p.0, all_digits ds es p.1 q)

-- the number that digits and more digits write
value_append : (ds es : List ℕ) → value (ds ++ es) ≡ value ds * 10 ^ length es + value es
value_append ds [] = ap value (append-nil ds) ∙ omega arith
value_append ds (e ∷ es) =
    let p = 10 ^ length es in
    let one : value (e ∷ []) ≡ digit_value e = digits_value_push 10 [] e ∙ omega arith in
    let rest : value (e ∷ es) ≡ digit_value e * p + value es = value_append (e ∷ []) es ∙ ap (λ x. x * p + value es) one in
    let all : value (ds ++ e ∷ es) ≡ (value ds * 10 + digit_value e) * p + value es =
    ap value (sym (append_assoc ds (e ∷ []) es)) ∙ value_append (ds ++ e ∷ []) es ∙ ap (λ x. x * p + value es) (digits_value_push 10 ds e) in
    let up : value ds * 10 * p ≡ value ds * 10 ^ suc (length es) = mul_assoc (value ds) 10 p ∙ ap (λ x. value ds * x) (sym (pow-succ' 10 (length es))) in
    omega (arith, all, rest, add-mul (value ds * 10) (digit_value e) p, up)

some_power : (k : ℕ) → 0 < 10 ^ k
some_power zero = omega arith
some_power (suc k) = omega (arith, pow-succ' 10 k, some_power k)

pub same_factor : (m n k : ℕ) → m * 10 ^ k ≡ n * 10 ^ k → m ≡ n
same_factor m n k e = sym (mul-div_cancel m (some_power k)) ∙ ap (λ x. x / 10 ^ k) e ∙ mul-div_cancel n (some_power k)

-- a multiple of a power has no rest
no_rest : (n t r k : ℕ) → r < 10 ^ k → n * 10 ^ k ≡ t * 10 ^ k + r → r ≡ 0
no_rest n t r k less e = sym (mod-mul-add t (10 ^ k) r less) ∙ ap (λ x. x % 10 ^ k) (sym e) ∙ mul-mod_left n (10 ^ k)

zero_times : (m n : ℕ) → 0 ≡ 0 * m * n
zero_times m n = omega arith

moved : (n k up : ℕ) → n * 10 ^ (k + up) ≡ n * 10 ^ k * 10 ^ up
moved n k up = ap (λ x. n * x) (pow-add 10 k up) ∙ sym (mul_assoc n (10 ^ k) (10 ^ up))

module _ (w f : List ℕ) (e : ℕ) where
  abbrev ds : List ℕ
  ds = w ++ f

  abbrev up : Bool → ℕ
  up negative = if negative then 0 else e

  abbrev down : Bool → ℕ
  down negative = length f + (if negative then e else 0)

  abbrev point : Bool → ℕ
  point negative = if negative then length w - e else length w + e

  -- the digits before a place, and those after it
  cut : (k : ℕ) → value ds ≡ value (take k ds) * 10 ^ (length ds - k) + value (drop k ds)
  cut k = ap value (sym (take-append-drop k ds)) ∙ value_append (take k ds) (drop k ds) ∙ ap (λ n. value (take k ds) * 10 ^ n + value (drop k ds)) (length-drop k ds)

  below : (k : ℕ) → AllDigits 10 ds → value (drop k ds) < 10 ^ (length ds - k)
  below k all = omega (arith, digits_value-lt 10 (drop k ds) (digits_after k ds all), ap (λ n. 10 ^ n) (length-drop k ds))

  -- where the place is among the digits
  within : (b : Bool) (n : ℕ) → AllDigits 10 ds → down b ≡ length ds - point b + up b → n * 10 ^ down b ≡ value ds * 10 ^ up b → value (drop (point b) ds) ≡ 0
  within b n all is e =
      let c = length ds - point b in
      let same : n * 10 ^ c ≡ value ds = same_factor (n * 10 ^ c) (value ds) (up b) (sym (moved n c (up b)) ∙ ap (λ k. n * 10 ^ k) (sym is) ∙ e) in
      no_rest n (value (take (point b) ds)) (value (drop (point b) ds)) c (below (point b) all) (same ∙ cut (point b))

  -- a number that the digits write has no digits after the place
  so_whole : (b : Bool) (n : ℕ) → AllDigits 10 ds → n * 10 ^ down b ≡ value ds * 10 ^ up b → value (drop (point b) ds) ≡ 0
  so_whole true n all is = elim (cases_lt (length w) e) [
    | inl far ↦ (
        let none : length w - e ≡ 0 = omega arith in
        let more : 10 ^ length ds ≤ 10 ^ (length f + e) = pow-le-pow_right (omega arith) (omega (arith, length-append w f)) in
        let less : value ds < 10 ^ (length f + e) = omega (arith, digits_value-lt 10 ds all, more) in
        ap (λ k. value (drop k ds)) none ∙ no_rest n 0 (value ds) (length f + e) less (omega (arith, is))
        )
    | inr near ↦ within true n all (omega (arith, length-append w f)) is
  ]
  so_whole false n all is = elim (cases_lt (length f) e) [
    | inl far ↦ ap value (drop_all (length w + e) ds (omega (arith, length-append w f)))
    | inr near ↦ within false n all (omega (arith, length-append w f)) is
  ]

  -- without digits after the place, the digits before it are the number
  inside : (b : Bool) → down b ≡ length ds - point b + up b → point b - length ds ≡ 0 → value (drop (point b) ds) ≡ 0
      → value ds * 10 ^ up b ≡ value (take (point b) ds) * 10 ^ (point b - length ds) * 10 ^ down b
  inside b is none rest =
      let t = value (take (point b) ds) in
      let c = length ds - point b in
      let front : value ds ≡ t * 10 ^ c = omega (arith, cut (point b), rest) in
      let alone : t ≡ t * 10 ^ (point b - length ds) = omega arith ∙ ap (λ k. t * 10 ^ k) (sym none) in
      ap (λ x. x * 10 ^ up b) front ∙ sym (moved t c (up b)) ∙ ap (λ k. t * 10 ^ k) (sym is) ∙ ap (λ x. x * 10 ^ down b) alone

  whole_so : (b : Bool) → value (drop (point b) ds) ≡ 0 → value ds * 10 ^ up b ≡ value (take (point b) ds) * 10 ^ (point b - length ds) * 10 ^ down b
  whole_so true rest = elim (cases_lt (length w) e) [
    | inl far ↦ (
        let none : length w - e ≡ 0 = omega arith in
        let all : value ds ≡ 0 = ap (λ k. value (drop k ds)) (sym none) ∙ rest in
        let front : value (take (length w - e) ds) ≡ 0 = ap (λ k. value (take k ds)) none in
        ap (λ x. x * 1) all ∙ zero_times _ _ ∙ ap (λ x. x * 10 ^ (length w - e - length ds) * 10 ^ (length f + e)) (sym front)
        )
    | inr near ↦ inside true (omega (arith, length-append w f)) (omega (arith, length-append w f)) rest
  ]
  whole_so false rest = elim (cases_lt (length f) e) [
    | inl far ↦ (
        let past = length w + e - length ds in
        let same : e ≡ past + (length f + 0) = omega (arith, length-append w f) in
        ap (λ k. value ds * 10 ^ k) same ∙ moved (value ds) past (length f + 0)
        ∙ ap (λ xs. value xs * 10 ^ past * 10 ^ (length f + 0)) (sym (take_all (length w + e) ds (omega (arith, length-append w f))))
        )
    | inr near ↦ inside false (omega (arith, length-append w f)) (omega (arith, length-append w f)) rest
  ]

module _ (text : List ℕ) (n : ℕ) where
  abbrev p : Parts
  p = scan text

  to : AllDigits 10 p.whole × AllDigits 10 p.fraction × AllDigits 10 p.exponent → IsNatural text n → IsWhole p × (whole_of p ≡ n)
  to digits is =
      let whole = so_whole p.whole p.fraction (value p.exponent) p.exponent_negative n (all_digits p.whole p.fraction digits.0 digits.1) is.1 in
      (whole, sym (same_factor n (whole_of p) (tens_down p) (is.1 ∙ whole_so p.whole p.fraction (value p.exponent) p.exponent_negative whole)))

  by_result : (o : Option ℕ) → AllDigits 10 p.whole × AllDigits 10 p.fraction × AllDigits 10 p.exponent → true ≡ has_digits p
      → SomeIff o (IsWhole p × (whole_of p < 2 ^ 64)) (whole_of p) → IsNatural text n ↔ (o ≡ Some n)
  by_result None digits some none = (λ is. (let w = to digits is in absurd (none (w.0, subst (λ m. m < 2 ^ 64) (sym w.1) is.2))), λ e. absurd (cc (e)))
  by_result (Some m) digits some found = (
    λ is. ap Some (found.1 ∙ (to digits is).1),
    λ e. (let same : whole_of p ≡ n = sym found.1 ∙ ap (λ o. unwrap_or o m) e in
        (sym some, subst (λ k. k * 10 ^ tens_down p ≡ digits_of p * 10 ^ tens_up p) same (sym (whole_so p.whole p.fraction (value p.exponent) p.exponent_negative found.0.0)), subst (λ k. k < 2 ^ 64) same found.0.1)),
  )

  -- what is returned is the number, if there is one
  pub natural_is : (o : Option ℕ) (q : Parts) → q ≡ p → AllDigits 10 q.whole × AllDigits 10 q.fraction × AllDigits 10 q.exponent → true ≡ has_digits q
      → SomeIff o (IsWhole q × (whole_of q < 2 ^ 64)) (whole_of q) → IsNatural text n ↔ (o ≡ Some n)
  natural_is o q scanned = subst
      (λ r. AllDigits 10 r.whole × AllDigits 10 r.fraction × AllDigits 10 r.exponent → true ≡ has_digits r → SomeIff o (IsWhole r × (whole_of r < 2 ^ 64)) (whole_of r) → IsNatural text n ↔ (o ≡ Some n))
      (sym scanned) (λ digits some found. by_result o digits some found)

-- ---- small numbers

pub small_numbers : IsNatural (codes "1") 1 × IsNatural (codes "1.0") 1 × IsNatural (codes "1e0") 1 × IsNatural (codes "10e-1") 1 × IsNatural (codes "1.5E+1") 15
unfolding scan_numeral
small_numbers = ((refl, refl, omega arith), (refl, refl, omega arith), (refl, refl, omega arith), (refl, refl, omega arith), (refl, refl, omega arith))

pub no_half : (n : ℕ) → IsNatural (codes "1.5") n → ⊥
unfolding scan_numeral
no_half n is = let h : n * 10 ≡ 15 = is.1 in absurd (omega (arith, h))

pub no_negative : (n : ℕ) → IsNatural (codes "-1") n → ⊥
unfolding scan_numeral
no_negative n is = absurd (cc (is.0))
