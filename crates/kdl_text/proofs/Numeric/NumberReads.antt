-- Readers of numbers, a step at a time.
use Rattle.std.proofs.Common.{◌≡◌, ℕ, ◌+◌, ◌*◌, ◌<◌, ◌≤◌, [], ◌∷◌, ◌++◌, Bool, true, false, length, refl, ap, sym, ◌∙◌, subst, arith, Some, None, append_assoc, append-nil, ne_eqb, length-append, ◌⊎◌, inl, inr}
use Rattle.std.specs.Prelude.{◌==◌}
use Rattle.std.proofs.lemmas.Bool.Decides.{nat_tests}
use Rattle.std.proofs.lemmas.Str.{len_utf8_bounds}
use Rattle.std.specs.Char.{digit_value, len_utf8}
use Rattle.std.specs.Str.Parse.{digits_value_after}
use Rattle.kdl_text.specs.Chars.{Text, is_sign, starts}
use Rattle.kdl_text.specs.Internal.Here.{Here, Took, Stayed, looked, stepped, first, first_len, tail}
use Rattle.kdl_text.specs.Spans.{bytes, raise}
use Rattle.kdl_text.specs.Internal.Reading.{Costs, Past, Consumed}
use Rattle.kdl_text.specs.Numbers.{is_digit_of, is_part, Sign, BasePrefix, Digits, Integer, integer, base_prefix}
use Rattle.kdl_text.specs.Numbers.Sign.{none, plus, minus}
use Rattle.kdl_text.specs.Numbers.BasePrefix.{ten, other}
use Rattle.kdl_text.specs.Numbers.Digits.{stop, digit, underscore}
use Rattle.kdl_text.specs.Internal.NumberReading.{Counts, IsDigit, SignOf, BaseOf, ReadsDigits, ReadsInteger, radix_of}
use Rattle.kdl_text.specs.declared.numbers.Radix.{Radix}
use Rattle.kdl_text.specs.declared.numbers.Radix.TheVariants.{Binary, Octal, Decimal, Hexadecimal}
use Rattle.kdl_text.proofs.Looking.MovesJoin.{stayed_looked, took_from, bytes-append}
use Rattle.kdl_text.proofs.Looking.SliceCost.{past_start, past_then, past_two, past_more, past_took, past_look, past_stayed}
use Rattle.kdl_text.proofs.Looking.Runs.{length-bytes}

pub value_after : (k : ℕ) (ds es : Text) (n : ℕ) → digits_value_after k n (ds ++ es) ≡ digits_value_after k (digits_value_after k n ds) es
value_after k [] es n = refl
value_after k (c ∷ cs) es n = value_after k cs es (n * k + digit_value c)

-- the digits and `_` read so far
pub record InDigits (k before now : ℕ) (f a : Here) : Type 0 where
  pub read : Text
  pub on : (r w : Text) → Digits k a.rest r w → Digits k f.rest r (read ++ w)
  pub counts : (n : ℕ) → Counts before n → Counts now (digits_value_after k n read)
  pub past : Past 1 0 f a

pub digits_start : (k m : ℕ) (f : Here) → InDigits k m m f f
digits_start k m f = record { read = []; on = λ r w d. d; counts = λ n g. g; past = past_start }

module _ (k before now : ℕ) (f a b e : Here) (c : ℕ) (i : InDigits k before now f a) (h : Some c ≡ first a.rest) (x : b ≡ looked a) where
  pub digits_underscore : c ≡ 95 → e ≡ stepped b → InDigits k before now f e
  digits_underscore is y =
      let t : Took (Some 95) a e = took_from 95 a b e (ap Some (sym is) ∙ h) x y in
      record {
        read = i.read;
        on = λ r w d. i.on r w (subst (λ q. Digits k q r w) (sym t.0) (underscore d));
        counts = i.counts;
        past = past_then i.past (past_took t);
      }

  pub digits_digit : (d m : ℕ) → IsDigit k c (Some d) → ((n : ℕ) → Counts now n → Counts m (n * k + d)) → e ≡ stepped b → InDigits k before m f e
  digits_digit d m (is, value, small) more y =
      let t = took_from c a b e h x y in
      record {
        read = i.read ++ c ∷ [];
        on = λ r w g. subst (Digits k f.rest r) (sym (append_assoc i.read (c ∷ []) w)) (i.on r (c ∷ w) (subst (λ q. Digits k q r (c ∷ w)) (sym t.0) (digit is g)));
        counts = λ n g. subst (Counts m) (ap (λ q. digits_value_after k n i.read * k + q) value ∙ sym (value_after k i.read (c ∷ []) n)) (more (digits_value_after k n i.read) (i.counts n g));
        past = past_then i.past (past_took t);
      }

-- no more digits and `_` here
pub digits_end : (k before now : ℕ) (f a b : Here) → InDigits k before now f a → b ≡ looked a → starts (is_part k) a.rest ≡ false → Consumed 2 1 (ReadsDigits k before now) f b
digits_end k before now f a b i x h = record {
  reads = (i.read ++ [], i.on b.rest [] (subst (λ q. Digits k a.rest q []) (sym (stayed_looked a b x).rest) (stop h)), λ n g. subst (λ q. Counts now (digits_value_after k n q)) (sym (append-nil i.read)) (i.counts n g));
  past = past_two (past_then i.past (past_look x));
}

pub not_part : (k c : ℕ) (s : Text) → Some c ≡ first s → (c ≡ 95 → ⊥) → is_digit_of k c ≡ false → starts (is_part k) s ≡ false
not_part k c [] h ne n = cc
not_part k c (d ∷ s) h ne n = let e : c ≡ d = cc in rw (← e) (rw (n, ne_eqb c 95 ne) refl)

pub none_here : (p : ℕ → Bool) (s : Text) → None ≡ first s → starts p s ≡ false
none_here p [] h = refl
none_here p (d ∷ s) h = cc

pub one_here : (p : ℕ → Bool) (c : ℕ) (s : Text) → Some c ≡ first s → starts p s ≡ p c
one_here p c [] h = cc
one_here p c (d ∷ s) h = let e : c ≡ d = cc in rw (← e) refl

-- signs
is_either : (c : ℕ) → is_sign c ≡ true → (c ≡ 43) ⊎ (c ≡ 45)
is_either c h = grind (arith, nat_tests)

pub sign_read : (c : ℕ) (a b e : Here) → Some c ≡ first a.rest → is_sign c ≡ true → b ≡ looked a → e ≡ stepped b → Consumed 2 1 (SignOf (c == 45)) a e
sign_read c a b e h is x y =
    let t = took_from c a b e h x y in
    let sign : Sign (c ∷ e.rest) e.rest (c == 45) = elim (is_either c is) [ inl p ↦ rw p plus | inr q ↦ rw q minus ] in
    record { reads = rw t.0 sign; past = past_more (omega arith) (past_two (past_took t)) }

pub sign_none : (a b : Here) → b ≡ looked a → starts is_sign a.rest ≡ false → Consumed 2 1 (SignOf false) a b
sign_none a b x h = record { reads = subst (λ q. Sign a.rest q false) (sym (stayed_looked a b x).rest) (none h); past = past_two (past_look x) }

-- prefixes of bases
pub base_ten : {k : ℕ} (a b : Here) → base_prefix a.rest ≡ None → k ≤ 2 → Stayed k a b → Consumed 2 2 (BaseOf Decimal) a b
base_ten a b h few s = record { reads = subst (λ q. BasePrefix a.rest q 10) (sym s.rest) (ten h); past = past_more few (past_two (past_stayed s)) }

base_parts : (t : Text) (k : ℕ) → base_prefix t ≡ Some k → (c d : ℕ) × (t ≡ c ∷ d ∷ tail (tail t))
base_parts [] k h = cc
base_parts (c ∷ []) k h = cc
base_parts (c ∷ d ∷ s) k h = (c, d, refl)

pub base_other : (r : Radix) (a b m e : Here) → base_prefix a.rest ≡ Some (radix_of r) → Stayed 2 a b → m ≡ stepped b → e ≡ stepped m → Consumed 2 2 (BaseOf r) a e
base_other radix a b m e h s x y =
    let (c, d, t) = base_parts a.rest (radix_of radix) h in
    let u : b.rest ≡ c ∷ d ∷ tail (tail a.rest) = s.rest ∙ t in
    let v : m.rest ≡ d ∷ tail (tail a.rest) = ap (λ z. z.rest) x ∙ ap tail u in
    let r : e.rest ≡ tail (tail a.rest) = ap (λ z. z.rest) y ∙ ap tail v in
    let w : a.rest ≡ c ∷ d ∷ e.rest = t ∙ ap (λ z. c ∷ d ∷ z) (sym r) in
    let at : e.at ≡ a.at + len_utf8 c + len_utf8 d =
    ap (λ z. z.at) y ∙ ap (λ z. m.at + first_len z) v ∙ ap (λ z. z + len_utf8 d) (ap (λ z. z.at) x ∙ ap (λ z. b.at + first_len z) u ∙ ap (λ z. z + len_utf8 c) s.at) in
    let same : e.text ≡ a.text = ap (λ z. z.text) y ∙ ap (λ z. z.text) x ∙ s.same in
    let steps : e.steps ≡ raise a.steps 2 = ap (λ z. z.steps) y ∙ ap (λ z. z.steps) x ∙ s.steps in
    record {
      reads = subst (λ q. BasePrefix q e.rest (radix_of radix)) (sym w) (other (ap base_prefix (sym w) ∙ h));
      past = record {
        moves = record { piece = (c ∷ d ∷ [], w); at = omega (arith, ap bytes w, at); counts = omega (arith, steps); same = same };
        costs = record { most = omega (arith, ap bytes w, steps, (len_utf8_bounds c).0, (len_utf8_bounds d).0); least = omega (arith, ap length w, steps) };
      };
    }

-- an integer: its first digit, and those after it
pub integer_read : (k c d m : ℕ) (a b e g : Here) → k ≤ 16 → Some c ≡ first a.rest → b ≡ looked a → e ≡ stepped b → IsDigit k c (Some d) → ReadsDigits k d m e.rest g.rest → ReadsInteger k (Some m) a.rest g.rest
integer_read k c d m a b e g low h x y (is, value, small) (w, read, counts) =
    let t = took_from c a b e h x y in
    (c ∷ w, subst (λ q. Integer k q g.rest (c ∷ w)) (sym t.0) (integer is read), counts (0 * k + digit_value c) (omega (arith, value, small, low)))

-- the bases are at most 16
pub base_low : (b : Radix) → radix_of b ≤ 16
base_low Binary = omega arith
base_low Octal = omega arith
base_low Decimal = omega arith
base_low Hexadecimal = omega arith

-- where at least one character was read, a constant cost is one for each byte
pub tight : {c : ℕ} {a b : Here} → c ≤ 18 → Past 2 c a b → length b.rest < length a.rest → Costs 20 0 a b
tight {a = a} {b = b} le k h =
    let (p, text) = k.moves.piece in
    let more : 1 ≤ bytes p = omega (arith, ap length text, length-append p b.rest, h, length-bytes p) in
    record { most = omega (arith, k.costs.most, more, le, ap bytes text, bytes-append p b.rest); least = k.costs.least }
