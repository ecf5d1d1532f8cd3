-- Numbers as JSON writes them, and what their texts are in KDL.
use Rattle.std.proofs.Common.{◌≡◌, ℕ, ℤ, pos, negsuc, zero, suc, ◌+◌, ◌%◌, ◌^◌, ◌<◌, ◌≤◌, true, false, cond, ◌==◌, List, [], ◌∷◌, length, drop, get_or, Option, Some, None, Result, option_and_then, neg_ℤ, refl, ap, ◌∙◌, sym, subst, inl, inr, ◌⊎◌, arith, append-nil}
use Rattle.std.specs.Prelude.{FitsSigned, Ok, codes}
use Rattle.std.specs.Int.{w128}
use Rattle.std.specs.Fmt.{decimal, signed_decimal}
use Rattle.std.specs.List.{prefix_len}
use Rattle.std.specs.Char.{is_ascii_digit}
use Rattle.std.specs.Str.Parse.{ParsesSigned}
use Rattle.std.proofs.lemmas.Bool.{ne_eqb, le-leb, and_from}
use Rattle.std.proofs.lemmas.Fmt.{IsAscii-decimal_wide, decimal_is_IsNumeral_wide, decimal_digit, decimal_by_steps_wide}
use Rattle.std.specs.Str.{IsAscii}
use Rattle.std.proofs.lemmas.List.{drop_all, length-append}
use lib.ListN.{get_or-append}
use Rattle.std.proofs.lemmas.Result.{Ok-from_Ok_iff}
use Rattle.std.proofs.lemmas.Str.Parse.{digit_at, numerals_by_value, tells_digits, parse_signed_digits, parse_signed_minus}
use Rattle.json.specs.Word.{head, after_whole, after_fraction, after_exponent, after_number}
use Rattle.json.specs.Print.{IsNumber}
use Rattle.kdl_text.specs.Chars.{Text}
use Rattle.kdl_text.specs.Numbers.{FloatText, WholeNumber, begins_number}
use Rattle.kdl_text.proofs.Numeric.NumberUnique.{whole_number_begins, whole_number_det}
use Rattle.kdl_text.proofs.Numeric.DecimalUnique.{whole_or_decimal}
use Rattle.kdl_value.proofs.Spelling.NumberReadsBack.{printed_number}
use Rattle.kdl_json.specs.Form.{is_json_number, is_read_whole}

-- whether the bytes are a number of JSON, as a test and as a fact
read_whole : (o : Option (List ℕ)) → is_read_whole o ≡ true → o ≡ Some []
read_whole None e = cc
read_whole (Some []) e = refl
read_whole (Some (c ∷ s)) e = cc

pub IsNumber-from_test : (s : List ℕ) → is_json_number s ≡ true → IsNumber s
IsNumber-from_test s e = read_whole (after_number s) e

pub test-from_IsNumber : (s : List ℕ) → IsNumber s → is_json_number s ≡ true
test-from_IsNumber s e = ap is_read_whole e

-- digits without a leading zero are a number of JSON
all_digits : (ds : List ℕ) → ((i : ℕ) → i < length ds → (48 ≤ get_or ds i 0) × (get_or ds i 0 ≤ 57)) → prefix_len is_ascii_digit ds ≡ length ds
all_digits [] h = refl
all_digits (d ∷ ds) h =
    let first = h 0 (omega arith) in
    let rest = all_digits ds (λ i l. h (suc i) (omega arith)) in
    ap (λ b. cond b (1 + prefix_len is_ascii_digit ds) 0) (and_from _ _ (le-leb 48 d first.0) (le-leb d 57 first.1)) ∙ omega arith

whole_digits : (ds : List ℕ) → 48 < get_or ds 0 0 → prefix_len is_ascii_digit ds ≡ length ds → (after_whole ds ≡ Some []) × ((head ds == 45) ≡ false)
whole_digits [] first all = absurd (omega arith)
whole_digits (d ∷ ds) first all = (
  rw (ne_eqb d 48 (λ e. omega arith), all, ne_eqb (suc (length ds)) 0 (λ e. omega arith)) (ap Some (drop_all (length ds) ds (omega arith))),
  ne_eqb d 45 (λ e. omega arith),
)

first_digit : (n : ℕ) → 0 < n → n < 10 ^ 64 → 48 < get_or (decimal n) 0 0
first_digit n some small = (decimal_by_steps_wide (λ m ds. (0 < length ds) × (0 < m → 48 < get_or ds 0 0)) (λ m l. (omega arith, λ a. omega arith))
    (λ m ds l h. (omega (arith, length-append ds ((48 + m % 10) ∷ [])), λ a. omega (arith, get_or-append ds ((48 + m % 10) ∷ []) 0 0 h.0, h.1 (omega arith)))) n small).1 some

whole_decimal : (n : ℕ) → n < 10 ^ 64 → (after_whole (decimal n) ≡ Some []) × ((head (decimal n) == 45) ≡ false)
whole_decimal zero h = let e = decimal_digit 0 (omega arith) in (ap after_whole e, ap (λ l. head l == 45) e)
whole_decimal (suc n) h =
    whole_digits (decimal (suc n)) (first_digit (suc n) (omega arith) h) (all_digits _ (λ i l. digit_at _ i (decimal_is_IsNumeral_wide (suc n) h).0.1 l))

positive_number : (n : ℕ) → n < 10 ^ 64 → IsNumber (decimal n)
unfolding after_number
positive_number n h =
    let w = whole_decimal n h in
    ap (λ o. option_and_then after_exponent (option_and_then after_fraction o))
    (ap (λ b. after_whole (cond b (drop 1 (decimal n)) (decimal n))) w.1 ∙ w.0)

negative_number : (n : ℕ) → n < 10 ^ 64 → IsNumber (45 ∷ decimal n)
unfolding after_number
negative_number n h = ap (λ o. option_and_then after_exponent (option_and_then after_fraction o)) (whole_decimal n h).0

positive_few : (n : ℕ) → n < 2 ^ 127 → n < 10 ^ 64
positive_few n h = omega arith

negative_few : (n : ℕ) → n < 2 ^ 127 → suc n < 10 ^ 64
negative_few n h = omega arith

-- a whole number of 128 bits is written as a number of JSON
pub IsNumber-written : (z : ℤ) → FitsSigned w128 z → IsNumber (signed_decimal z)
IsNumber-written (pos n) f = positive_number n (positive_few n (omega (arith, f.sfits)))
IsNumber-written (negsuc n) f = negative_number (suc n) (negative_few n (omega (arith, f.sfits)))

pub IsAscii-written : (z : ℤ) → FitsSigned w128 z → IsAscii (signed_decimal z)
IsAscii-written (pos n) f i = IsAscii-decimal_wide n (positive_few n (omega (arith, f.sfits))) i
IsAscii-written (negsuc n) f zero = omega arith
IsAscii-written (negsuc n) f (suc i) = IsAscii-decimal_wide (suc n) (negative_few n (omega (arith, f.sfits))) i

-- and is read back
pub parse-written : {E : Type 0} (z : ℤ) (bs : List ℕ) (r : Result ℤ E) → FitsSigned w128 z → bs ≡ signed_decimal z → ParsesSigned w128 10 bs r → r ≡ Ok z
parse-written (pos n) bs r fits is h =
    let k = decimal_is_IsNumeral_wide n (positive_few n (omega (arith, fits.sfits))) in
    let read = parse_signed_digits (numerals_by_value _ tells_digits) w128 (decimal n) r (subst (λ l. ParsesSigned w128 10 l r) is h) k.0.1 in
    Ok-from_Ok_iff r _ _ read (k.0.0, omega (arith, k.1, fits.sfits)) ∙ ap (λ m. Ok (pos m)) k.1
parse-written (negsuc n) bs r fits is h =
    let k = decimal_is_IsNumeral_wide (suc n) (negative_few n (omega (arith, fits.sfits))) in
    let read = parse_signed_minus (numerals_by_value _ tells_digits) w128 (45 ∷ decimal (suc n)) r (subst (λ l. ParsesSigned w128 10 l r) is h) refl in
    Ok-from_Ok_iff r _ _ read (k.0.1, k.0.0, omega (arith, k.1, fits.sfits)) ∙ ap (λ m. Ok (neg_ℤ (pos m))) k.1

-- what is written of a whole number is one of KDL, and of no other number
read_written : (z : ℤ) → FitsSigned w128 z → WholeNumber (signed_decimal z) [] z
read_written z f = subst (λ (t : Text). WholeNumber t [] z) (append-nil (signed_decimal z)) (printed_number [] refl z f)

pub written_once : (y z : ℤ) → FitsSigned w128 y → FitsSigned w128 z → signed_decimal y ≡ signed_decimal z → y ≡ z
written_once y z f g e = (whole_number_det (read_written y f) (subst (λ (t : Text). WholeNumber t [] z) (sym e) (read_written z g))).1

-- and it is no float
pub whole_no_float : (z : ℤ) → FitsSigned w128 z → FloatText (signed_decimal z) → ⊥
whole_no_float z f (inl h) = whole_or_decimal (read_written z f) h
whole_no_float z f (inr h) = no_keyword h
  where
    not_begun : (t : Text) → signed_decimal z ≡ t → begins_number t ≡ false → ⊥
    not_begun t e n = let b : begins_number t ≡ true = subst (λ (u : Text). begins_number u ≡ true) e (whole_number_begins (read_written z f)) in cc

    no_keyword : (signed_decimal z ≡ codes "#inf") ⊎ (signed_decimal z ≡ codes "#-inf") ⊎ (signed_decimal z ≡ codes "#nan") → ⊥
    no_keyword (inl e) = not_begun _ e refl
    no_keyword (inr (inl e)) = not_begun _ e refl
    no_keyword (inr (inr e)) = not_begun _ e refl
