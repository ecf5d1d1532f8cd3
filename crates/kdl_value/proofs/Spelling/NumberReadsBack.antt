-- A printed whole number is read back, before every text that no identifier character begins.
use Rattle.std.proofs.Common.{◌≡◌, ℕ, suc, ◌<◌, ◌^◌, Bool, true, false, ◌==◌, [], ◌∷◌, ◌++◌, length, None, refl, arith}
use Rattle.std.specs.Prelude.{ℤ, pos, negsuc, FitsSigned, if◌then◌else◌}
use Rattle.std.specs.Int.{w128}
use Rattle.std.proofs.lemmas.Bool.Decides.{nat_tests}
use Rattle.std.proofs.lemmas.Fmt.{decimal_is_IsNumeral_wide}
use Rattle.std.specs.Fmt.{decimal, signed_decimal}
use Rattle.std.specs.Str.Parse.{AllDigits}
use Rattle.kdl_text.specs.Chars.{Text, is_sign, is_identifier_char, is_space, is_newline_char, is_banned, is_punctuation, starts}
use Rattle.kdl_text.specs.Numbers.{is_digit_of, is_part, Sign, base_of, base_prefix, BasePrefix, Digits, Integer, integer, fits, WholeNumber, whole}

digit_test : (c : ℕ) → AllDigits 10 (c ∷ []) → is_digit_of 10 c ≡ true
unfolding is_digit_of
digit_test c h = grind (arith, nat_tests, h.0)

digit_signless : (c : ℕ) → is_digit_of 10 c ≡ true → is_sign c ≡ false
unfolding is_digit_of
digit_signless c h = grind (arith, nat_tests)

digit_baseless : (c : ℕ) → is_digit_of 10 c ≡ true → base_of c ≡ None
unfolding is_digit_of
digit_baseless c h = grind (arith, nat_tests)

end_no_part : (c : ℕ) → is_identifier_char c ≡ false → is_part 10 c ≡ false
unfolding is_identifier_char is_space is_newline_char is_banned is_punctuation is_digit_of
end_no_part c h = grind (arith, nat_tests)

end_baseless : (c : ℕ) → is_identifier_char c ≡ false → base_of c ≡ None
unfolding is_identifier_char is_space is_newline_char is_banned is_punctuation
end_baseless c h = grind (arith, nat_tests)

-- after a digit there is no prefix of a base
no_base : (c d : ℕ) (s : Text) → base_of d ≡ None → base_prefix (c ∷ d ∷ s) ≡ None
no_base c d s h = go (c == 48)
  where
    go : (b : Bool) → (if b then base_of d else None) ≡ None
    go true = h
    go false = refl

positive_few : (n : ℕ) → n < 2 ^ 127 → n < 10 ^ 64
positive_few n h = omega arith

negative_few : (n : ℕ) → n < 2 ^ 127 → suc n < 10 ^ 64
negative_few n h = omega arith

positive_fits : (n : ℕ) → n < 2 ^ 127 → fits false n ≡ true
positive_fits n h = grind (arith, nat_tests)

negative_fits : (n : ℕ) → n < 2 ^ 127 → fits true (suc n) ≡ true
negative_fits n h = grind (arith, nat_tests)

module _ (r : Text) (ends : starts is_identifier_char r ≡ false) where
  no_part : starts (is_part 10) r ≡ false
  no_part = go r ends
    where
      go : (r : Text) → starts is_identifier_char r ≡ false → starts (is_part 10) r ≡ false
      go [] h = refl
      go (c ∷ r) h = end_no_part c h

  digits_read : (ds : Text) → AllDigits 10 ds → Digits 10 (ds ++ r) r ds
  digits_read [] h = Digits.stop no_part
  digits_read (c ∷ ds) h = Digits.digit (digit_test c (h.0, tt)) (digits_read ds h.1)

  base_read : (c : ℕ) (ds : Text) → AllDigits 10 ds → base_prefix (c ∷ ds ++ r) ≡ None
  base_read c [] h = go r ends
    where
      go : (r : Text) → starts is_identifier_char r ≡ false → base_prefix (c ∷ r) ≡ None
      go [] h = refl
      go (d ∷ r) h = no_base c d r (end_baseless d h)
  base_read c (d ∷ ds) h = no_base c d (ds ++ r) (digit_baseless d (digit_test d (h.0, tt)))

  record Numeral (ds : Text) : Type 0 where
    unsigned : starts is_sign (ds ++ r) ≡ false
    base : BasePrefix (ds ++ r) (ds ++ r) 10
    int : Integer 10 (ds ++ r) r ds

  numeral_read : (ds : Text) → 0 < length ds → AllDigits 10 ds → Numeral ds
  numeral_read [] some h = absurd (omega arith)
  numeral_read (c ∷ ds) some h =
      let d = digit_test c (h.0, tt) in
      record { unsigned = digit_signless c d; base = BasePrefix.ten (base_read c ds h.1); int = integer d (digits_read ds h.1) }

  -- a printed number of 128 bits with a sign
  pub printed_number : (z : ℤ) → FitsSigned w128 z → WholeNumber (signed_decimal z ++ r) r z
  printed_number (pos n) f =
      let h : n < 2 ^ 127 = omega (arith, f.sfits) in
      let d = decimal_is_IsNumeral_wide n (positive_few n h) in
      let x = numeral_read (decimal n) d.0.0 d.0.1 in
      whole (Sign.none x.unsigned) x.base x.int ends (rw d.1 (positive_fits n h)) (rw d.1 refl)
  printed_number (negsuc n) f =
      let h : n < 2 ^ 127 = omega (arith, f.sfits) in
      let d = decimal_is_IsNumeral_wide (suc n) (negative_few n h) in
      let x = numeral_read (decimal (suc n)) d.0.0 d.0.1 in
      whole Sign.minus x.base x.int ends (rw d.1 (negative_fits n h)) (rw d.1 refl)
