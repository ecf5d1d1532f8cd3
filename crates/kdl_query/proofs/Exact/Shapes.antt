-- The pieces of a decimal's text are digits.
use Rattle.std.proofs.Common.{◌≡◌, ℕ, suc, ◌+◌, ◌^◌, ◌<◌, ◌≤◌, Bool, true, false, not, ◌==◌, List, [], ◌∷◌, ◌++◌, length, take, drop, cond, refl, sym, ap, subst, ◌∙◌, arith, append-nil}
use Rattle.std.proofs.lemmas.Bool.{and_parts, and_from}
use Rattle.std.proofs.lemmas.Bool.Decides.{nat_tests}
use Rattle.std.proofs.lemmas.List.Folds.{list_all-append}
use Rattle.std.proofs.lemmas.Str.{encodes-chars}
use Rattle.std.proofs.lemmas.Str.Ascii.{encodes-IsAscii, IsAscii-nil, IsAscii-cons}
use Rattle.std.specs.List.{list_all, before_first, after_first, position_or_len}
use Rattle.std.specs.Str.{chars, IsUtf8, IsAscii}
use Rattle.kdl_text.specs.Chars.{Text, is_digit, is_sign, starts}
use Rattle.kdl_text.specs.Numbers.{is_digit_of, Sign, Digits, Integer, integer, Fraction, Exponent, is_exponent_letter, part, plain, Decimal, decimal}
use Rattle.kdl_text.specs.Numbers.Sign.{none as no_sign, plus, minus}
use Rattle.kdl_text.specs.Numbers.Digits.{stop, digit, underscore}
use Rattle.kdl_text.specs.Numbers.Fraction.{none as no_fraction, fraction}
use Rattle.kdl_text.specs.Numbers.Exponent.{none as no_exponent, exponent}
use Rattle.kdl_query.specs.Decimal.{unsigned, is_point}

-- ---- no `_`

abbrev is_kept : ℕ → Bool
is_kept c = not (c == 95)

plain_short : (s : Text) → length (plain s) ≤ length s
plain_short [] = omega arith
plain_short (c ∷ s) = go (is_kept c) refl (plain_short s)
  where
    go : (b : Bool) → is_kept c ≡ b → length (plain s) ≤ length s → length (plain (c ∷ s)) ≤ suc (length s)
    go true h k = rw h (omega arith)
    go false h k = rw h (omega arith)

all_kept : (s : Text) → plain s ≡ s → list_all is_kept s ≡ true
all_kept [] h = refl
all_kept (c ∷ s) h = go (is_kept c) refl (all_kept s)
  where
    go : (b : Bool) → is_kept c ≡ b → (plain s ≡ s → list_all is_kept s ≡ true) → list_all is_kept (c ∷ s) ≡ true
    go true k rest =
        let e : c ∷ plain s ≡ c ∷ s = rw k at h in
        let f : plain s ≡ s = cc in
        rw k (rest f)
    go false k rest =
        let e : plain s ≡ c ∷ s = rw k at h in
        absurd (omega (arith, plain_short s, ap length e))

-- ---- the pieces

ten_digit : (c : ℕ) → is_digit_of 10 c ≡ true → is_digit c ≡ true
unfolding is_digit_of
ten_digit c h = grind (arith, nat_tests)

record Front (t r : Text) : Type 0 where
  digits : Text
  all : list_all is_digit digits ≡ true
  text : t ≡ digits ++ r

front_digits : {t r w : Text} → Digits 10 t r w → list_all is_kept t ≡ true → Front t r
front_digits (stop h) k = record { digits = []; all = refl; text = refl }
front_digits (digit {c = c} {s = s} h d) k =
    let (x, y) = and_parts (is_kept c) (list_all is_kept s) k in
    let f = front_digits d y in
    record { digits = c ∷ f.digits; all = and_from (is_digit c) (list_all is_digit f.digits) (ten_digit c h) f.all; text = ap (λ z. c ∷ z) f.text }
front_digits (underscore d) k = cc

front_integer : {t r w : Text} → Integer 10 t r w → list_all is_kept t ≡ true → Front t r
front_integer (integer {c = c} {s = s} h d) k =
    let (x, y) = and_parts (is_kept c) (list_all is_kept s) k in
    let f = front_digits d y in
    record { digits = c ∷ f.digits; all = and_from (is_digit c) (list_all is_digit f.digits) (ten_digit c h) f.all; text = ap (λ z. c ∷ z) f.text }

without_sign : {t r : Text} {n : Bool} → Sign t r n → unsigned t ≡ r
without_sign (no_sign {t = t} h) = go t h
  where
    go : (t : Text) → starts is_sign t ≡ false → unsigned t ≡ t
    go [] h = refl
    go (c ∷ t) h = rw h refl
without_sign plus = refl
without_sign minus = refl

-- what is kept of a text is kept of its rest
kept_sign : {t r : Text} {n : Bool} → Sign t r n → list_all is_kept t ≡ true → list_all is_kept r ≡ true
kept_sign (no_sign h) k = k
kept_sign plus k = k
kept_sign minus k = k

kept_rest : (p r : Text) → list_all is_kept (p ++ r) ≡ true → list_all is_kept r ≡ true
kept_rest p r k = (and_parts (list_all is_kept p) (list_all is_kept r) (sym (list_all-append is_kept p r) ∙ k)).1

kept_front : {t r : Text} → Front t r → list_all is_kept t ≡ true → list_all is_kept r ≡ true
kept_front {r = r} f k = kept_rest f.digits r (sym (ap (list_all is_kept) f.text) ∙ k)

-- ---- what is before and after a character

abbrev before : (ℕ → Bool) → Text → Text
before p [] = []
before p (c ∷ t) = cond (p c) [] (c ∷ before p t)

abbrev after : (ℕ → Bool) → Text → Text
after p [] = []
after p (c ∷ t) = cond (p c) t (after p t)

one_before : (n : ℕ) → 1 + n ≡ suc n
one_before n = omega arith

one_behind : (n : ℕ) → 1 + n + 1 ≡ suc (n + 1)
one_behind n = omega arith

first_is : (p : ℕ → Bool) (t : Text) → (before_first p t ≡ before p t) × (after_first p t ≡ after p t)
first_is p [] = (refl, refl)
first_is p (c ∷ t) = go (p c) refl (first_is p t)
  where
    go : (b : Bool) → p c ≡ b → (before_first p t ≡ before p t) × (after_first p t ≡ after p t) → (before_first p (c ∷ t) ≡ before p (c ∷ t)) × (after_first p (c ∷ t) ≡ after p (c ∷ t))
    go true h k = (rw h refl, rw h refl)
    go false h k =
        let n = position_or_len p t in
        (rw h (ap (λ i. take i (c ∷ t)) (one_before n) ∙ ap (λ z. c ∷ z) k.0), rw h (ap (λ i. drop i (c ∷ t)) (one_behind n) ∙ k.1))

-- ---- beside digits

no_letter : (c : ℕ) → is_digit c ≡ true → is_exponent_letter c ≡ false
no_letter c h = grind (arith, nat_tests)

no_point : (c : ℕ) → is_digit c ≡ true → is_point c ≡ false
no_point c h = grind (arith, nat_tests)

module _ (p : ℕ → Bool) (apart : (c : ℕ) → is_digit c ≡ true → p c ≡ false) where
  before_digits : (v u : Text) → list_all is_digit v ≡ true → before p (v ++ u) ≡ v ++ before p u
  before_digits [] u h = refl
  before_digits (c ∷ v) u h =
      let (x, y) = and_parts (is_digit c) (list_all is_digit v) h in
      rw (apart c x) (ap (λ z. c ∷ z) (before_digits v u y))

  after_digits : (v u : Text) → list_all is_digit v ≡ true → after p (v ++ u) ≡ after p u
  after_digits [] u h = refl
  after_digits (c ∷ v) u h =
      let (x, y) = and_parts (is_digit c) (list_all is_digit v) h in
      rw (apart c x) (after_digits v u y)

-- what is after a sign and an integer, where no letter is: nothing before an exponent, and its digits in it
record Tail (u : Text) : Type 0 where
  nothing : before is_exponent_letter u ≡ []
  digits : list_all is_digit (unsigned (after is_exponent_letter u)) ≡ true

tail : {u : Text} {b : Bool} → Exponent u [] b → list_all is_kept u ≡ true → Tail u
tail (no_exponent h) k = record { nothing = refl; digits = refl }
tail (exponent {c = c} {s = s} {t = t} h g i) k =
    let (x, y) = and_parts (is_kept c) (list_all is_kept s) k in
    let f = front_integer i (kept_sign g y) in
    let bare : t ≡ f.digits = f.text ∙ append-nil f.digits in
    let inner : list_all is_digit (unsigned s) ≡ true = ap (list_all is_digit) (without_sign g ∙ bare) ∙ f.all in
    record { nothing = rw h refl; digits = rw h inner }

-- the pieces of what is after the sign
record Pieces (s : Text) : Type 0 where
  whole : list_all is_digit (before is_point (before is_exponent_letter s)) ≡ true
  fraction : list_all is_digit (after is_point (before is_exponent_letter s)) ≡ true
  power : list_all is_digit (unsigned (after is_exponent_letter s)) ≡ true

pieces_after : {u v : Text} {b c : Bool} → Fraction u v b → Exponent v [] c → list_all is_kept u ≡ true → Pieces u
pieces_after {u = u} (no_fraction h) e k =
    let t = tail e k in
    record {
      whole = ap (λ z. list_all is_digit (before is_point z)) t.nothing;
      fraction = ap (λ z. list_all is_digit (after is_point z)) t.nothing;
      power = t.digits;
    }
pieces_after {v = v} (fraction {s = s} i) e k =
    let f = front_integer i k in
    let t = tail e (kept_front f k) in
    let head : before is_exponent_letter s ≡ f.digits = ap (before is_exponent_letter) f.text ∙ before_digits is_exponent_letter no_letter f.digits v f.all ∙ ap (λ z. f.digits ++ z) t.nothing ∙ append-nil f.digits in
    let rest : after is_exponent_letter s ≡ after is_exponent_letter v = ap (after is_exponent_letter) f.text ∙ after_digits is_exponent_letter no_letter f.digits v f.all in
    record {
      whole = refl;
      fraction = ap (list_all is_digit) head ∙ f.all;
      power = ap (λ z. list_all is_digit (unsigned z)) rest ∙ t.digits;
    }

pieces_of : {t u w : Text} → Integer 10 t u w → list_all is_kept t ≡ true → Pieces u → Pieces t
pieces_of {t = t} {u = u} i k q =
    let f = front_integer i k in
    let head : before is_exponent_letter t ≡ f.digits ++ before is_exponent_letter u = ap (before is_exponent_letter) f.text ∙ before_digits is_exponent_letter no_letter f.digits u f.all in
    let rest : after is_exponent_letter t ≡ after is_exponent_letter u = ap (after is_exponent_letter) f.text ∙ after_digits is_exponent_letter no_letter f.digits u f.all in
    let m = before is_exponent_letter u in
    let one : before is_point (before is_exponent_letter t) ≡ f.digits ++ before is_point m = ap (before is_point) head ∙ before_digits is_point no_point f.digits m f.all in
    let two : after is_point (before is_exponent_letter t) ≡ after is_point m = ap (after is_point) head ∙ after_digits is_point no_point f.digits m f.all in
    record {
      whole = ap (list_all is_digit) one ∙ list_all-append is_digit f.digits (before is_point m) ∙ and_from (list_all is_digit f.digits) (list_all is_digit (before is_point m)) f.all q.whole;
      fraction = ap (list_all is_digit) two ∙ q.fraction;
      power = ap (λ z. list_all is_digit (unsigned z)) rest ∙ q.power;
    }

-- the pieces of a decimal
pieces : (s : Text) → Decimal s [] s → Pieces (unsigned s)
pieces s (decimal {s = t} {u = u} p g i (part {s = v} f e some ends) cut is) =
    let whole : s ≡ p = cut ∙ append-nil p in
    let kept : list_all is_kept s ≡ true = all_kept s (ap plain whole ∙ sym is) in
    let kept_t = kept_sign g kept in
    subst Pieces (sym (without_sign g)) (pieces_of i kept_t (pieces_after f e (kept_front (front_integer i kept_t) kept_t)))

-- ---- how long they are

both_short : (p : ℕ → Bool) (t : Text) → length (before p t) + length (after p t) ≤ length t
both_short p [] = omega arith
both_short p (c ∷ t) = go (p c) refl (both_short p t)
  where
    go : (b : Bool) → p c ≡ b → length (before p t) + length (after p t) ≤ length t → length (before p (c ∷ t)) + length (after p (c ∷ t)) ≤ suc (length t)
    go true h k = rw h (omega arith)
    go false h k = rw h (omega arith)

unsigned_short : (t : Text) → length (unsigned t) ≤ length t
unsigned_short [] = omega arith
unsigned_short (c ∷ t) = go (is_sign c) refl
  where
    go : (b : Bool) → is_sign c ≡ b → length (unsigned (c ∷ t)) ≤ suc (length t)
    go true h = rw h (omega arith)
    go false h = rw h (omega arith)

-- what is known of the pieces of a decimal's text
pub record IsCut (w f q : Text) : Type 0 where
  pub whole : list_all is_digit w ≡ true
  pub fraction : list_all is_digit f ≡ true
  pub power : list_all is_digit q ≡ true
  pub short : length w + length f < 2 ^ 63
  pub power_short : length q < 2 ^ 63

pub cut_decimal : (s t m p w f q : Text) → Decimal s [] s → length s < 2 ^ 63 → t ≡ unsigned s → m ≡ before_first is_exponent_letter t → p ≡ after_first is_exponent_letter t
    → w ≡ before_first is_point m → f ≡ after_first is_point m → q ≡ unsigned p → IsCut w f q
cut_decimal s t m p w f q d h et em ep ew ef eq =
    let x = unsigned s in
    let fm : m ≡ before is_exponent_letter x = em ∙ ap (before_first is_exponent_letter) et ∙ (first_is is_exponent_letter x).0 in
    let fp : p ≡ after is_exponent_letter x = ep ∙ ap (after_first is_exponent_letter) et ∙ (first_is is_exponent_letter x).1 in
    let y = before is_exponent_letter x in
    let fw : w ≡ before is_point y = ew ∙ ap (before_first is_point) fm ∙ (first_is is_point y).0 in
    let ff : f ≡ after is_point y = ef ∙ ap (after_first is_point) fm ∙ (first_is is_point y).1 in
    let fq : q ≡ unsigned (after is_exponent_letter x) = eq ∙ ap unsigned fp in
    let k = pieces s d in
    record {
      whole = ap (list_all is_digit) fw ∙ k.whole;
      fraction = ap (list_all is_digit) ff ∙ k.fraction;
      power = ap (list_all is_digit) fq ∙ k.power;
      short = omega (arith, ap length fw, ap length ff, both_short is_point y, both_short is_exponent_letter x, unsigned_short s);
      power_short = omega (arith, ap length fq, unsigned_short (after is_exponent_letter x), both_short is_exponent_letter x, unsigned_short s);
    }

-- ---- a decimal is ASCII

digit_ascii : (c : ℕ) → is_digit_of 10 c ≡ true → c < 128
unfolding is_digit_of
digit_ascii c h = grind (arith, nat_tests)

letter_ascii : (c : ℕ) → is_exponent_letter c ≡ true → c < 128
letter_ascii c h = grind (arith, nat_tests)

digits_ascii : {t r w : Text} → Digits 10 t r w → IsAscii r → IsAscii t
digits_ascii (stop h) k = k
digits_ascii (digit {c = c} {s = s} h d) k = IsAscii-cons c s (digit_ascii c h) (digits_ascii d k)
digits_ascii (underscore {s = s} d) k = IsAscii-cons 95 s (omega arith) (digits_ascii d k)

integer_ascii : {t r w : Text} → Integer 10 t r w → IsAscii r → IsAscii t
integer_ascii (integer {c = c} {s = s} h d) k = IsAscii-cons c s (digit_ascii c h) (digits_ascii d k)

sign_ascii : {t r : Text} {n : Bool} → Sign t r n → IsAscii r → IsAscii t
sign_ascii (no_sign h) k = k
sign_ascii (plus {r = r}) k = IsAscii-cons 43 r (omega arith) k
sign_ascii (minus {r = r}) k = IsAscii-cons 45 r (omega arith) k

exponent_ascii : {t r : Text} {b : Bool} → Exponent t r b → IsAscii r → IsAscii t
exponent_ascii (no_exponent h) k = k
exponent_ascii (exponent {c = c} {s = s} h g i) k = IsAscii-cons c s (letter_ascii c h) (sign_ascii g (integer_ascii i k))

fraction_ascii : {t r : Text} {b : Bool} → Fraction t r b → IsAscii r → IsAscii t
fraction_ascii (no_fraction h) k = k
fraction_ascii (fraction {s = s} i) k = IsAscii-cons 46 s (omega arith) (integer_ascii i k)

decimal_ascii : (s : Text) → Decimal s [] s → IsAscii s
decimal_ascii s (decimal p g i (part f e some ends) cut is) = sign_ascii g (integer_ascii i (fraction_ascii f (exponent_ascii e IsAscii-nil)))

-- so its characters are its bytes
pub decimal_bytes : (bs : List ℕ) → IsUtf8 bs → Decimal (chars bs) [] (chars bs) → chars bs ≡ bs
decimal_bytes bs u d = sym (encodes-IsAscii (chars bs) (decimal_ascii (chars bs) d)) ∙ encodes-chars bs u
