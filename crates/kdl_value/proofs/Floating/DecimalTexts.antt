-- A decimal without its `_` is a float's text.
use Rattle.std.proofs.Common.{◌≡◌, ℕ, Bool, true, false, not, ◌==◌, [], ◌∷◌, ◌++◌, refl, sym, ap, subst, ◌∙◌, arith, append_assoc, append-nil, inl}
use Rattle.std.proofs.lemmas.Bool.Decides.{nat_tests}
use Rattle.std.proofs.lemmas.List.{append_cancel_right}
use Rattle.std.proofs.lemmas.List.Elements.{filter-append}
use Rattle.kdl_text.specs.Chars.{Text, is_sign, is_identifier_char, is_space, is_newline_char, is_banned, is_punctuation, begins, starts}
use Rattle.kdl_text.specs.Numbers.{is_digit_of, is_part, Sign, Digits, Integer, integer, Fraction, Exponent, is_exponent_letter, part, plain, Decimal, decimal, FloatText}
use Rattle.kdl_text.specs.Numbers.Sign.{none as no_sign, plus, minus}
use Rattle.kdl_text.specs.Numbers.Digits.{stop, digit, underscore}
use Rattle.kdl_text.specs.Numbers.Fraction.{none as no_fraction, fraction}
use Rattle.kdl_text.specs.Numbers.Exponent.{none as no_exponent, exponent}

-- a piece is at the front of t before r; without its `_` it is an X before any rest that P allows
record Plain (t r : Text) (P : Text → Type 0) (X : Text → Text → Type 0) : Type 0 where
  piece : Text
  text : t ≡ piece ++ r
  reads : (s : Text) → P s → X (plain piece ++ s) s

-- no digit and no `_`
abbrev NoPart : Text → Type 0
NoPart s = starts (is_part 10) s ≡ false

-- what a character that keeps its place does to a text
kept : (c : ℕ) (s : Text) → (c == 95) ≡ false → plain (c ∷ s) ≡ c ∷ plain s
kept c s h = rw h refl

digit_kept : (c : ℕ) → is_digit_of 10 c ≡ true → (c == 95) ≡ false
unfolding is_digit_of
digit_kept c h = grind (arith, nat_tests)

digit_signless : (c : ℕ) → is_digit_of 10 c ≡ true → is_sign c ≡ false
unfolding is_digit_of
digit_signless c h = grind (arith, nat_tests)

power_kept : (c : ℕ) → is_exponent_letter c ≡ true → (c == 95) ≡ false
power_kept c h = grind (arith, nat_tests)

power_pointless : (c : ℕ) → is_exponent_letter c ≡ true → (c == 46) ≡ false
power_pointless c h = grind (arith, nat_tests)

power_no_part : (c : ℕ) → is_exponent_letter c ≡ true → is_part 10 c ≡ false
unfolding is_digit_of
power_no_part c h = grind (arith, nat_tests)

end_no_part : (c : ℕ) → is_identifier_char c ≡ false → is_part 10 c ≡ false
unfolding is_identifier_char is_space is_newline_char is_banned is_punctuation is_digit_of
end_no_part c h = grind (arith, nat_tests)

end_pointless : (c : ℕ) → is_identifier_char c ≡ false → (c == 46) ≡ false
unfolding is_identifier_char is_space is_newline_char is_banned is_punctuation
end_pointless c h = grind (arith, nat_tests)

end_powerless : (c : ℕ) → is_identifier_char c ≡ false → is_exponent_letter c ≡ false
unfolding is_identifier_char is_space is_newline_char is_banned is_punctuation
end_powerless c h = grind (arith, nat_tests)

plain_digits : {t r w : Text} → Digits 10 t r w → Plain t r NoPart (λ s u. Digits 10 s u w)
plain_digits (stop h) = record { piece = []; text = refl; reads = λ s k. stop k }
plain_digits (digit {c = c} h d) =
    let x = plain_digits d in
    record { piece = c ∷ x.piece; text = ap (λ z. c ∷ z) x.text; reads = λ s k. rw (kept c x.piece (digit_kept c h)) (digit h (x.reads s k)) }
plain_digits (underscore d) =
    let x = plain_digits d in
    record { piece = 95 ∷ x.piece; text = ap (λ z. 95 ∷ z) x.text; reads = λ s k. x.reads s k }

plain_integer : {t r w : Text} → Integer 10 t r w → Plain t r NoPart (λ s u. Integer 10 s u w)
plain_integer (integer {c = c} h d) =
    let x = plain_digits d in
    record { piece = c ∷ x.piece; text = ap (λ z. c ∷ z) x.text; reads = λ s k. rw (kept c x.piece (digit_kept c h)) (integer h (x.reads s k)) }

-- no sign begins an integer
integer_signless : {t r w : Text} → Integer 10 t r w → starts is_sign t ≡ false
integer_signless (integer {c = c} h d) = digit_signless c h

plain_sign : {t r : Text} {n : Bool} → Sign t r n → Plain t r (λ s. starts is_sign s ≡ false) (λ s u. Sign s u n)
plain_sign (no_sign h) = record { piece = []; text = refl; reads = λ s k. no_sign k }
plain_sign plus = record { piece = 43 ∷ []; text = refl; reads = λ s k. plus }
plain_sign minus = record { piece = 45 ∷ []; text = refl; reads = λ s k. minus }

-- an exponent, before which a fraction or an integer may end
record Ends (s u : Text) (b : Bool) : Type 0 where
  power : Exponent s u b
  digits : starts (is_part 10) s ≡ false
  point : begins 46 s ≡ false

ends_bare : (s : Text) → starts is_identifier_char s ≡ false → Ends s s false
ends_bare [] h = record { power = no_exponent refl; digits = refl; point = refl }
ends_bare (c ∷ s) h = record { power = no_exponent (end_powerless c h); digits = end_no_part c h; point = end_pointless c h }

plain_exponent : {t r : Text} {b : Bool} → Exponent t r b → Plain t r (λ s. starts is_identifier_char s ≡ false) (λ s u. Ends s u b)
plain_exponent (no_exponent h) = record { piece = []; text = refl; reads = λ s k. ends_bare s k }
plain_exponent (exponent {c = c} {r = r} h g i) =
    let x = plain_sign g in
    let y = plain_integer i in
    record {
      piece = c ∷ (x.piece ++ y.piece);
      text = ap (λ z. c ∷ z) (x.text ∙ ap (λ z. x.piece ++ z) y.text ∙ sym (append_assoc x.piece y.piece r));
      reads = λ s k.
          let here = y.reads s (ends_bare s k).digits in
          rw (kept c (x.piece ++ y.piece) (power_kept c h), filter-append (λ d. not (d == 95)) x.piece y.piece, append_assoc (plain x.piece) (plain y.piece) s)
          (record { power = exponent h (x.reads (plain y.piece ++ s) (integer_signless here)) here; digits = power_no_part c h; point = power_pointless c h });
    }

point_no_part : is_part 10 46 ≡ false
unfolding is_digit_of
point_no_part = refl

-- a fraction, before which an integer may end
record Stops (s u : Text) (b : Bool) : Type 0 where
  fraction : Fraction s u b
  digits : starts (is_part 10) s ≡ false

-- what may follow a fraction
record Follows (s : Text) : Type 0 where
  digits : starts (is_part 10) s ≡ false
  point : begins 46 s ≡ false

plain_fraction : {t r : Text} {b : Bool} → Fraction t r b → Plain t r Follows (λ s u. Stops s u b)
plain_fraction (no_fraction h) = record { piece = []; text = refl; reads = λ s k. record { fraction = no_fraction k.point; digits = k.digits } }
plain_fraction (fraction i) =
    let x = plain_integer i in
    record { piece = 46 ∷ x.piece; text = ap (λ z. 46 ∷ z) x.text; reads = λ s k. record { fraction = fraction (x.reads s k.digits); digits = point_no_part } }

plain_twice : (s : Text) → plain (plain s) ≡ plain s
plain_twice [] = refl
plain_twice (c ∷ s) = go (c == 95) refl (plain_twice s)
  where
    go : (b : Bool) → (c == 95) ≡ b → plain (plain s) ≡ plain s → plain (plain (c ∷ s)) ≡ plain (c ∷ s)
    go true h k = rw h k
    go false h k = rw (h, h) (ap (λ z. c ∷ z) k)

-- four pieces in a row
joined : (p a b c d r t s u v : Text) → t ≡ p ++ r → t ≡ a ++ s → s ≡ b ++ u → u ≡ c ++ v → v ≡ d ++ r → plain p ≡ plain a ++ (plain b ++ (plain c ++ (plain d ++ [])))
joined p a b c d r t s u v cut one two three four =
    let all = a ++ (b ++ (c ++ d)) in
    let text : p ++ r ≡ a ++ (b ++ (c ++ (d ++ r))) = sym cut ∙ one ∙ ap (λ z. a ++ z) (two ∙ ap (λ z. b ++ z) (three ∙ ap (λ z. c ++ z) four)) in
    let whole : all ++ r ≡ a ++ (b ++ (c ++ (d ++ r))) = append_assoc a (b ++ (c ++ d)) r ∙ ap (λ z. a ++ z) (append_assoc b (c ++ d) r ∙ ap (λ z. b ++ z) (append_assoc c d r)) in
    let same : p ≡ all = append_cancel_right p all r (text ∙ sym whole) in
    let is_kept : ℕ → Bool = λ e. not (e == 95) in
    let parts : plain (c ++ d) ≡ plain c ++ (plain d ++ []) = filter-append is_kept c d ∙ ap (λ z. plain c ++ z) (sym (append-nil (plain d))) in
    let more : plain (b ++ (c ++ d)) ≡ plain b ++ (plain c ++ (plain d ++ [])) = filter-append is_kept b (c ++ d) ∙ ap (λ z. plain b ++ z) parts in
    ap plain same ∙ filter-append is_kept a (b ++ (c ++ d)) ∙ ap (λ z. plain a ++ z) more

-- the text of a decimal, without its `_`, is a decimal
pub plain_decimal : {t r w : Text} → Decimal t r w → Decimal w [] w
plain_decimal {t = t} {r = r} (decimal {s = s} {u = u} p a i (part {s = v} f e some ends) cut is) =
    let signed = plain_sign a in
    let whole = plain_integer i in
    let point = plain_fraction f in
    let power = plain_exponent e in
    let at_power = power.reads [] refl in
    let after_whole = plain power.piece ++ [] in
    let at_point = point.reads after_whole (record { digits = at_power.digits; point = at_power.point }) in
    let after_sign = plain point.piece ++ after_whole in
    let at_whole = whole.reads after_sign at_point.digits in
    let unsigned = plain whole.piece ++ after_sign in
    let all = plain signed.piece ++ unsigned in
    let same : plain p ≡ all = joined p signed.piece whole.piece point.piece power.piece r t s u v cut signed.text whole.text point.text power.text in
    let once : all ≡ plain all = sym (ap plain (sym same) ∙ plain_twice p ∙ same) in
    let at_all : Decimal all [] all = decimal all (signed.reads unsigned (integer_signless at_whole)) at_whole (part at_point.fraction at_power.power some refl) (sym (append-nil all)) once in
    subst (λ z. Decimal z [] z) (sym (is ∙ same)) at_all

-- what a decimal represents is a float's text
pub decimal_float : {t r w : Text} → Decimal t r w → FloatText w
decimal_float d = inl (plain_decimal d)
