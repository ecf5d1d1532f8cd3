-- Numbers and keywords come before each rest that begins with no identifier character.
use Rattle.std.proofs.Common.{◌≡◌, ℕ, ℤ, Bool, true, false, ◌||◌, ◌==◌, [], ◌∷◌, ◌++◌, Option, Some, None, refl, sym, ap, ◌∙◌, arith}
use Rattle.std.proofs.lemmas.Bool.{eqb-true}
use Rattle.std.proofs.lemmas.Bool.Decides.{nat_tests}
use Rattle.std.specs.Prelude.{if◌then◌else◌}
use Rattle.kdl_text.specs.Chars.{Text, within, starts, is_identifier_char, is_space, is_newline_char, is_banned, is_punctuation, is_sign}
use Rattle.kdl_text.specs.Internal.Here.{first}
use Rattle.kdl_text.specs.Numbers.{is_digit_of, is_part, Sign, BasePrefix, base_of, base_prefix, Digits, Integer, integer, WholeNumber, whole, Fraction, Exponent, is_exponent_letter, DecimalPart, part, Decimal, decimal, IsNumber, is_whole, is_decimal, NumberValue, IsKeyword, keyword as a_keyword, keyword_text}
use Rattle.kdl_text.specs.declared.numbers.Keyword.{Keyword}
use Rattle.kdl_text.specs.declared.numbers.Keyword.TheVariants.{True, False, Null, Infinity, NegativeInfinity, NotANumber}
use Rattle.kdl_value.specs.Data.{Value}
use Rattle.kdl_syntax.specs.Pieces.{PlainPiece, number, keyword}
use Rattle.kdl_syntax.proofs.Moving.Puts.{stands, also, joined, before, same, same_piece, starts_first, Alike, both_end, alike_put, MoveAlike, MovePiece}

-- classes of identifier characters
sign_class : (c : ℕ) → is_sign c ≡ true → is_identifier_char c ≡ true
unfolding is_identifier_char is_space is_newline_char is_banned is_punctuation
sign_class c h = grind (arith, nat_tests)

exponent_class : (c : ℕ) → is_exponent_letter c ≡ true → is_identifier_char c ≡ true
unfolding is_identifier_char is_space is_newline_char is_banned is_punctuation
exponent_class c h = grind (arith, nat_tests)

-- a digit, or a letter up to f
abbrev is_hex_char : ℕ → Bool
is_hex_char c = within 48 57 c || (within 65 70 c || within 97 102 c)

hex_class : (c : ℕ) → is_hex_char c ≡ true → is_identifier_char c ≡ true
unfolding is_identifier_char is_space is_newline_char is_banned is_punctuation
hex_class c h = grind (arith, nat_tests)

ten_char : (c : ℕ) → is_digit_of 10 c ≡ true → is_hex_char c ≡ true
unfolding is_digit_of
ten_char c h = grind (arith, nat_tests)

sixteen_char : (c : ℕ) → is_digit_of 16 c ≡ true → is_hex_char c ≡ true
unfolding is_digit_of
sixteen_char c h = grind (arith, nat_tests)

eight_char : (c : ℕ) → is_digit_of 8 c ≡ true → is_hex_char c ≡ true
unfolding is_digit_of
eight_char c h = grind (arith, nat_tests)

two_char : (c : ℕ) → is_digit_of 2 c ≡ true → is_hex_char c ≡ true
unfolding is_digit_of
two_char c h = grind (arith, nat_tests)

low_line : is_identifier_char 95 ≡ true
unfolding is_identifier_char is_space is_newline_char is_banned is_punctuation
low_line = refl

part_class : (k c : ℕ) → (is_digit_of k c ≡ true → is_hex_char c ≡ true) → is_part k c ≡ true → is_identifier_char c ≡ true
part_class k c f h = go (is_digit_of k c) refl h
  where
    go : (b : Bool) → is_digit_of k c ≡ b → (b || c == 95) ≡ true → is_identifier_char c ≡ true
    go true e h = hex_class c (f e)
    go false e h = ap is_identifier_char (eqb-true c 95 h) ∙ low_line

ten_class : (c : ℕ) → is_part 10 c ≡ true → is_identifier_char c ≡ true
ten_class c h = part_class 10 c (ten_char c) h

sixteen_class : (c : ℕ) → is_part 16 c ≡ true → is_identifier_char c ≡ true
sixteen_class c h = part_class 16 c (sixteen_char c) h

eight_class : (c : ℕ) → is_part 8 c ≡ true → is_identifier_char c ≡ true
eight_class c h = part_class 8 c (eight_char c) h

two_class : (c : ℕ) → is_part 2 c ≡ true → is_identifier_char c ≡ true
two_class c h = part_class 2 c (two_char c) h

base_class : (d k : ℕ) → base_of d ≡ Some k → (c : ℕ) → is_part k c ≡ true → is_identifier_char c ≡ true
base_class d k h c x = go (d == 120 || d == 88) (d == 111 || d == 79) (d == 98 || d == 66) h
  where
    go : (a b e : Bool) → (if a then Some 16 else if b then Some 8 else if e then Some 2 else None) ≡ Some k → is_identifier_char c ≡ true
    go true b e h = let f : 16 ≡ k = cc in sixteen_class c (rw f x)
    go false true e h = let f : 8 ≡ k = cc in eight_class c (rw f x)
    go false false true h = let f : 2 ≡ k = cc in two_class c (rw f x)
    go false false false h = cc

prefix_class : (c d k : ℕ) (s : Text) → base_prefix (c ∷ d ∷ s) ≡ Some k → (e : ℕ) → is_part k e ≡ true → is_identifier_char e ≡ true
prefix_class c d k s h = go (c == 48) h
  where
    go : (b : Bool) → (if b then base_of d else None) ≡ Some k → (e : ℕ) → is_part k e ≡ true → is_identifier_char e ≡ true
    go true h = base_class d k h
    go false h = cc

-- the letter of a base
is_base : ℕ → Bool
is_base d = (d == 120 || d == 88) || ((d == 111 || d == 79) || (d == 98 || d == 66))

base_letter : (c : ℕ) → is_base c ≡ true → is_identifier_char c ≡ true
unfolding is_base is_identifier_char is_space is_newline_char is_banned is_punctuation
base_letter c h = grind (arith, nat_tests)

no_base : (d : ℕ) → is_base d ≡ false → base_of d ≡ None
unfolding is_base
no_base d h = go (d == 120 || d == 88) (d == 111 || d == 79) (d == 98 || d == 66) h
  where
    go : (a b e : Bool) → (a || (b || e)) ≡ false → ◌≡◌ {A = Option ℕ} (if a then Some 16 else if b then Some 8 else if e then Some 2 else None) None
    go true b e h = absurd cc
    go false true e h = absurd cc
    go false false true h = absurd cc
    go false false false h = refl

base_none : (d : ℕ) → base_of d ≡ None → is_base d ≡ false
unfolding is_base
base_none d h = go (d == 120 || d == 88) (d == 111 || d == 79) (d == 98 || d == 66) h
  where
    go : (a b e : Bool) → ◌≡◌ {A = Option ℕ} (if a then Some 16 else if b then Some 8 else if e then Some 2 else None) None → (a || (b || e)) ≡ false
    go true b e h = absurd cc
    go false true e h = absurd cc
    go false false true h = absurd cc
    go false false false h = refl

after_zero : (b : Bool) (s : Text) → (if b then starts is_base s else false) ≡ false → (u : Text) → starts is_base u ≡ starts is_base s → (if b then starts is_base u else false) ≡ false
after_zero true s h u e = e ∙ h
after_zero false s h u e = refl

no_base_test : (c : ℕ) (s : Text) → base_prefix (c ∷ s) ≡ None → (if c == 48 then starts is_base s else false) ≡ false
no_base_test c [] h = go (c == 48)
  where
    go : (b : Bool) → (if b then false else false) ≡ false
    go true = refl
    go false = refl
no_base_test c (d ∷ s) h = go (c == 48) h
  where
    go : (b : Bool) → (if b then base_of d else None) ≡ None → (if b then is_base d else false) ≡ false
    go true h = base_none d h
    go false h = refl

test_no_base : (c : ℕ) (s : Text) → (if c == 48 then starts is_base s else false) ≡ false → base_prefix (c ∷ s) ≡ None
test_no_base c [] h = refl
test_no_base c (d ∷ s) h = go (c == 48) h
  where
    go : (b : Bool) → (if b then is_base d else false) ≡ false → (if b then base_of d else None) ≡ None
    go true h = no_base d h
    go false h = refl

no_base_alike : (c : ℕ) (s u : Text) → Alike u s → base_prefix (c ∷ s) ≡ None → base_prefix (c ∷ u) ≡ None
no_base_alike c s u a h = test_no_base c u (after_zero (c == 48) s (no_base_test c s h) u (a.same is_base base_letter))

move_sign : {t s : Text} {n : Bool} → Sign t s n → MoveAlike (λ t s. Sign t s n) t s
move_sign (Sign.none x) = record { at = stands; there = λ u a. Sign.none (a.same is_sign sign_class ∙ x) }
move_sign Sign.plus = record { at = also 43 stands; there = λ u a. Sign.plus }
move_sign Sign.minus = record { at = also 45 stands; there = λ u a. Sign.minus }

module _ (k : ℕ) (sub : (c : ℕ) → is_part k c ≡ true → is_identifier_char c ≡ true) where
  move_digits : {s r w : Text} → Digits k s r w → MoveAlike (λ s r. Digits k s r w) s r
  move_digits (Digits.stop x) = record { at = stands; there = λ u a. Digits.stop (a.same (is_part k) sub ∙ x) }
  move_digits (Digits.digit {c = c} x d) = let m = move_digits d in record { at = also c m.at; there = λ u a. Digits.digit x (m.there u a) }
  move_digits (Digits.underscore d) = let m = move_digits d in record { at = also 95 m.at; there = λ u a. Digits.underscore (m.there u a) }

  move_integer : {s r w : Text} → Integer k s r w → MoveAlike (λ s r. Integer k s r w) s r
  move_integer (integer {c = c} x d) = let m = move_digits d in record { at = also c m.at; there = λ u a. integer x (m.there u a) }

move_whole : {t r : Text} {z : ℤ} → WholeNumber t r z → MovePiece (λ t r. WholeNumber t r z) t r
move_whole {r = r} (whole {s = s} a (BasePrefix.ten b) (integer {c = c} {s = s1} x d) e f g) =
    let sg = move_sign a in let m = move_digits 10 ten_class d in
    record {
      at = joined sg.at (also c m.at);
      full = λ u. same sg.at (c ∷ m.at.put u) refl;
      there = λ u h.
          let l = both_end u r h e in
          whole (sg.there (c ∷ m.at.put u) (alike_put (also c m.at) u l)) (BasePrefix.ten (no_base_alike c s1 (m.at.put u) (alike_put m.at u l) b)) (integer x (m.there u l)) h f g;
    }
move_whole {r = r} (whole a (BasePrefix.other {c = c} {d = d'} {radix = k} {r = q} b) d e f g) =
    let sg = move_sign a in let m = move_integer k (prefix_class c d' k q b) d in
    record {
      at = joined sg.at (also c (also d' m.at));
      full = λ u. same sg.at (c ∷ d' ∷ m.at.put u) refl;
      there = λ u h.
          let l = both_end u r h e in
          whole (sg.there (c ∷ d' ∷ m.at.put u) (alike_put (also c (also d' m.at)) u l)) (BasePrefix.other b) (m.there u l) h f g;
    }

move_exponent : {t s : Text} {b : Bool} → Exponent t s b → MoveAlike (λ t s. Exponent t s b) t s
move_exponent (Exponent.none x) = record { at = stands; there = λ u a. Exponent.none (a.same is_exponent_letter exponent_class ∙ x) }
move_exponent (Exponent.exponent {c = c} x g i) =
    let sg = move_sign g in let m = move_integer 10 ten_class i in
    record { at = also c (joined sg.at m.at); there = λ u a. Exponent.exponent x (sg.there (m.at.put u) (alike_put m.at u a)) (m.there u a) }

move_part : {t r : Text} → DecimalPart t r → MovePiece DecimalPart t r
move_part {r = r} (part (Fraction.none x) (Exponent.exponent {c = c} y g i) z e) =
    let sg = move_sign g in let m = move_integer 10 ten_class i in
    record {
      at = also c (joined sg.at m.at);
      full = λ u. refl;
      there = λ u h. let l = both_end u r h e in part (Fraction.none x) (Exponent.exponent y (sg.there (m.at.put u) (alike_put m.at u l)) (m.there u l)) z h;
    }
move_part {r = r} (part (Fraction.fraction i) d z e) =
    let k = move_integer 10 ten_class i in let m = move_exponent d in
    record {
      at = also 46 (joined k.at m.at);
      full = λ u. refl;
      there = λ u h. let l = both_end u r h e in part (Fraction.fraction (k.there (m.at.put u) (alike_put m.at u l))) (m.there u l) z h;
    }
move_part (part (Fraction.none x) (Exponent.none y) z e) = absurd cc

move_decimal : {t r w : Text} → Decimal t r w → MovePiece (λ t r. Decimal t r w) t r
move_decimal {r = r} (decimal {s = s} {u = q} p a (integer {c = c} x d) e f g) =
    let sg = move_sign a in let m = move_digits 10 ten_class d in let k = move_part e in
    let at = joined sg.at (also c (joined m.at k.at)) in
    record {
      at = at;
      full = λ u. same sg.at (c ∷ m.at.put (k.at.put u)) refl;
      there = λ u h.
          let l : Alike (k.at.put u) q = record { same = λ b sub. starts_first b (k.at.put u) q (k.full u) } in
          decimal p (sg.there (c ∷ m.at.put (k.at.put u)) (alike_put (also c m.at) (k.at.put u) l)) (integer x (m.there (k.at.put u) l)) (k.there u h) (same_piece p at f u) g;
    }

move_number : {t r : Text} {n : NumberValue} → IsNumber t r n → MovePiece (λ t r. IsNumber t r n) t r
move_number (is_whole w) = let m = move_whole w in record { at = m.at; full = m.full; there = λ u e. is_whole (m.there u e) }
move_number (is_decimal w) = let m = move_decimal w in record { at = m.at; full = m.full; there = λ u e. is_decimal (m.there u e) }

keyword_full : (k : Keyword) (u r : Text) → first (keyword_text k ++ u) ≡ first (keyword_text k ++ r)
keyword_full True u r = refl
keyword_full False u r = refl
keyword_full Null u r = refl
keyword_full Infinity u r = refl
keyword_full NegativeInfinity u r = refl
keyword_full NotANumber u r = refl

move_keyword : {t r : Text} {k : Keyword} → IsKeyword t r k → MovePiece (λ t r. IsKeyword t r k) t r
move_keyword {r = r} {k = k} (a_keyword e n) = record { at = before (keyword_text k) e; full = λ u. keyword_full k u r ∙ ap first (sym e); there = λ u x. a_keyword refl x }

pub move_plain_piece : {s r : Text} {v : Value} → PlainPiece s r v → MovePiece (λ s r. PlainPiece s r v) s r
move_plain_piece (number n e) = let m = move_number n in record { at = m.at; full = m.full; there = λ u h. number (m.there u h) e }
move_plain_piece (keyword k e) = let m = move_keyword k in record { at = m.at; full = m.full; there = λ u h. keyword (m.there u h) e }
