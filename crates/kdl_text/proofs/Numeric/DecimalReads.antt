-- Readers of numbers that may be decimals, a step at a time.
use Rattle.std.proofs.Common.{◌≡◌, ℕ, ◌<◌, ◌≤◌, [], ◌∷◌, ◌++◌, Bool, true, false, not, ◌||◌, ◌==◌, length, refl, ap, sym, ◌∙◌, subst, arith, ℤ, List, Some, None, ◌↔◌, length-append, append-nil, IsTrue, cond, suc, ◌&&◌}
use Rattle.std.proofs.lemmas.Bool.{not-true, not-false, ne_eqb}
use Rattle.std.specs.Prelude.{if◌then◌else◌, Result, Ok, Err, IfOk, Option, MatchOption}
use Rattle.std.specs.Option.{is_some}
use Rattle.std.specs.List.{list_all}
use Rattle.std.specs.Bool.{MatchBool}
use Rattle.std.specs.Str.{IsUtf8, NonePass, chars}
use Rattle.std.specs.Str.Parse.{digits_value}
use Rattle.std.specs.Str.Pattern.{FindsChar}
use Rattle.std.proofs.lemmas.Str.{chars_from_encodes, encodes-chars}
use Rattle.std.proofs.lemmas.Str.Pattern.{contains_char, NoCharPasses-char}
use Rattle.kdl_text.specs.Chars.{Text, is_identifier_char, starts}
use Rattle.kdl_text.specs.Internal.Here.{Here, Ate, first, sliced}
use Rattle.kdl_text.specs.Spans.{bytes}
use Rattle.kdl_text.specs.Internal.Reading.{Costs}
use Rattle.kdl_text.specs.Numbers.{is_digit_of, Sign, BasePrefix, Integer, WholeNumber, whole, signed, fits, Fraction, Exponent, is_exponent_letter, DecimalPart, part, plain, Decimal, decimal, IsNumber, is_whole, is_decimal, NumberValue, whole_value, decimal_text}
use Rattle.kdl_text.specs.Numbers.BasePrefix.{ten, other}
use Rattle.kdl_text.specs.Numbers.Fraction.{none as no_fraction, fraction}
use Rattle.kdl_text.specs.Numbers.Exponent.{none as no_exponent, exponent}
use Rattle.kdl_text.specs.Internal.NumberReading.{Begun, FaultAt, PartFault, NoNumber, Counts, IsFront, ReadsInteger, ReadsFraction, ReadsExponent, ReadsPart, ReadsNumber, AteExponentLetter, radix_of}
use Rattle.kdl_text.specs.declared.numbers.Front.{Front}
use Rattle.kdl_text.specs.declared.numbers.Radix.{Radix}
use Rattle.kdl_text.specs.declared.numbers.Radix.TheVariants.{Binary, Octal, Decimal as TenDigits, Hexadecimal}
use Rattle.kdl_text.specs.declared.numbers.Number.TheVariants.{Integer as IntegerNumber}
use Rattle.kdl_text.specs.declared.numbers.NumberFault.{NumberFault}
use Rattle.kdl_text.specs.declared.numbers.NumberFault.TheVariants.{OutOfRange, Trailing, TrailingDecimal, MissingDigits, MissingFraction, MissingExponent}
use Rattle.kdl_text.proofs.Looking.MovesJoin.{stayed_looked, bytes-append}
use Rattle.kdl_text.proofs.Looking.Runs.{length-bytes}
use Rattle.kdl_text.proofs.Numeric.NumberUnique.{sign_det, integer_digit, whole_is, whole_digit}
use Rattle.kdl_text.proofs.Numeric.DecimalUnique.{part_is, fraction_det, no_ten, base_is_ten, part_of, part_begins, number_det, number_shorter}

-- no number begins where no digit comes after the sign and the prefix
pub no_front : (t s u : Text) (n : Bool) (k j : ℕ) → Sign t s n → BasePrefix s u k → j ≡ k → starts (is_digit_of j) u ≡ false → (r : Text) (x : NumberValue) → IsNumber t r x → ⊥
no_front t s u n k j a b e h r x (is_whole {z = z} w) = let y = whole_digit t s u r n k z a b w in let y' : starts (is_digit_of k) u ≡ false = rw (← e) h in cc
no_front t s u n k j a b e h r x (is_decimal (decimal {s = s'} {u = u'} {v = v} p a' i d f g)) =
    let i' = subst (λ q. Integer 10 q u' v) (sym (sign_det a a').0) i in
    let m = base_is_ten i' d b in
    let y = integer_digit i' in
    let z : starts (is_digit_of 10) s ≡ false = rw (← m.1, ← m.0, ← e) h in cc

pub ten_stays : {s u : Text} → BasePrefix s u 10 → u ≡ s
ten_stays (ten h) = refl
ten_stays (other {c = c} {d = d} {r = r} h) = absurd (no_ten c d r h)

-- a number by its front
module _ (f : Front) (t u : Text) (x : IsFront f t u) where
  abbrev begun : Begun f.radix t u
  begun = record { after_sign = x.after_sign; after_base = x.after_base; digits = x.digits; negative = f.negative; sign = x.sign; base = x.base; int = x.int }

  -- a decimal is of base 10, and goes on
  pub front_decimal : (r w : Text) → Decimal t r w → (radix_of f.radix ≡ 10) × DecimalPart u r
  front_decimal r w d = part_of t x.after_sign x.after_base u x.digits r f.negative (radix_of f.radix) w x.sign x.base x.int d

  pub front_trailing : false ≡ not (starts is_identifier_char u) → (r : Text) (z : ℤ) → WholeNumber t r z → ⊥
  front_trailing h r z w =
      let e = (whole_is t x.after_sign x.after_base u x.digits r f.negative (radix_of f.radix) z x.sign x.base x.int w).ends in
      let y : false ≡ true = h ∙ ap not e in cc

  -- a whole number ends here
  pub front_whole : (rest : Text) (o : Option ℤ) → rest ≡ u → true ≡ not (starts is_identifier_char u)
      → ((q : ℕ) → Counts f.magnitude q → o ≡ (if fits f.negative q then Some (signed f.negative q) else None)) → MatchOption o (NoNumber OutOfRange t rest) (λ z. WholeNumber t rest z)
  front_whole rest o r h g = rw (r, g value x.counts) (go (fits f.negative value) refl)
    where
      value : ℕ
      value = digits_value (radix_of f.radix) x.digits

      none : fits f.negative value ≡ false → (v : Text) (w : NumberValue) → IsNumber t v w → ⊥
      none y v w (is_whole {z = z} i) = let c = (whole_is t x.after_sign x.after_base u x.digits v f.negative (radix_of f.radix) z x.sign x.base x.int i).fits in cc
      none y v w (is_decimal {w = w'} d) = let c = part_begins (front_decimal v w' d).1 in let e = not-true _ (sym h) in cc

      go : (b : Bool) → fits f.negative value ≡ b → MatchOption (if b then Some (signed f.negative value) else None) (NoNumber OutOfRange t u) (λ z. WholeNumber t u z)
      go true y = whole x.sign x.base x.int (not-true _ (sym h)) y refl
      go false y = record { none = none y; fault = (f.radix, begun, y) }

  -- a digit of another base, and then no end
  pub front_other : (rest : Text) → rest ≡ u → (radix_of f.radix ≡ 10 → ⊥) → false ≡ not (starts is_identifier_char u) → NoNumber (Trailing f.radix) t rest
  front_other rest r n h = rw r (record { none = none; fault = (begun, not-false (starts is_identifier_char u) (sym h)) })
    where
      none : (r : Text) (v : NumberValue) → IsNumber t r v → ⊥
      none r v (is_whole {z = z} w) = front_trailing h r z w
      none r v (is_decimal {w = w} d) = n (front_decimal r w d).0

  -- nothing follows that makes a decimal
  pub front_no_part : (e : NumberFault) (s rest : Text) → s ≡ u → f.radix ≡ TenDigits → false ≡ not (starts is_identifier_char u) → ReadsPart (Err e) s rest → NoNumber e t rest
  front_no_part e s rest r base h p = record { none = none (rw r at p.0); fault = fault e (rw r at p.1) }
    where
      none : ((r : Text) → DecimalPart u r → ⊥) → (r : Text) (v : NumberValue) → IsNumber t r v → ⊥
      none n r v (is_whole {z = z} w) = front_trailing h r z w
      none n r v (is_decimal {w = w} d) = n r (front_decimal r w d).1

      fault : (e : NumberFault) → PartFault e u rest → FaultAt e t rest
      fault (Trailing b) (q, k) = rw (q, k, ← base) (begun, not-false (starts is_identifier_char u) (sym h))
      fault TrailingDecimal k = (u, rw (← base) begun, k)
      fault MissingFraction k = (u, rw (← base) begun, k)
      fault MissingExponent k = (u, rw (← base) begun, k)
      fault (MissingDigits b) k = absurd k
      fault OutOfRange k = absurd k

  -- a decimal was read
  pub front_part : (s r : Text) → s ≡ u → f.radix ≡ TenDigits → DecimalPart s r → (p : Text) → t ≡ p ++ r → Decimal t r (plain p)
  front_part s r q base d p g =
      let e : radix_of f.radix ≡ 10 = ap radix_of base in
      let m = ten_stays (subst (λ q. BasePrefix x.after_sign x.after_base q) e x.base) in
      let i : Integer 10 x.after_sign u x.digits = subst (λ q. Integer 10 q u x.digits) m (subst (λ q. Integer q x.after_base u x.digits) e x.int) in
      decimal p x.sign i (rw q at d) g refl

-- a number that was read is the only one
pub reads_number : (t r p : Text) (s : Text) → s ≡ plain p → Decimal t r (plain p) → (v : Text) (w : NumberValue) → IsNumber t v w ↔ ((v ≡ r) × (w ≡ decimal_text s))
reads_number t r p s e d v w = let d' : Decimal t r s = rw e d in (λ i. number_det i (is_decimal d'), λ (x, y). rw (x, y) (is_decimal d'))

pub decimal_shorter : {t r w : Text} → Decimal t r w → length r < length t
decimal_shorter d = number_shorter (is_decimal d)

-- a whole number that was read is the only number
pub reads_whole : (t r : Text) (z : ℤ) → WholeNumber t r z → ReadsNumber (Ok (IntegerNumber z)) t r
reads_whole t r z w = λ v x. (λ i. number_det i (is_whole w), λ (p, q). rw (p, q) (is_whole w))

-- fractions and exponents
pub fraction_none : (a b : Here) → Ate 46 false a b → Fraction a.rest b.rest false
fraction_none a b (h, e) = subst (λ q. Fraction a.rest q false) (sym (stayed_looked a b e).rest) (no_fraction h)

pub fraction_some : (m : ℕ) (a b e : Here) → Ate 46 true a b → ReadsInteger 10 (Some m) b.rest e.rest → Fraction a.rest e.rest true
fraction_some m a b e t i = subst (λ q. Fraction q e.rest true) (sym t.0) (fraction i.1)

no_point_digit : {s r : Text} {p : Bool} → starts (is_digit_of 10) s ≡ false → Fraction (46 ∷ s) r p → ⊥
no_point_digit h (no_fraction y) = cc
no_point_digit h (fraction i) = let z = integer_digit i in cc

pub fraction_broken : (a b e : Here) → Ate 46 true a b → ReadsInteger 10 None b.rest e.rest → ReadsFraction (Err MissingFraction) a.rest e.rest
fraction_broken a b e t (same, none) = (λ r p x. no_point_digit none (subst (λ q. Fraction q r p) t.0 x), rw same (t.0, none))

pub exponent_none : (a b : Here) → AteExponentLetter false a b → Exponent a.rest b.rest false
exponent_none a b (h, s) = subst (λ q. Exponent a.rest q false) (sym s.rest) (no_exponent h)

pub exponent_some : (m : ℕ) (n : Bool) (a b d e : Here) → AteExponentLetter true a b → Sign b.rest d.rest n → ReadsInteger 10 (Some m) d.rest e.rest → Exponent a.rest e.rest true
exponent_some m n a b d e (c, is, t) g i = subst (λ q. Exponent q e.rest true) (sym t.0) (exponent is g i.1)

broken : {c : ℕ} {q d r : Text} {n p : Bool} → is_exponent_letter c ≡ true → Sign q d n → starts (is_digit_of 10) d ≡ false → Exponent (c ∷ q) r p → ⊥
broken is g h (no_exponent y) = cc
broken {r = r} is g h (exponent {t = u} {w = w} y k i) = let z = integer_digit (subst (λ q. Integer 10 q r w) (sym (sign_det g k).0) i) in cc

pub exponent_broken : (n : Bool) (a b d e : Here) → AteExponentLetter true a b → Sign b.rest d.rest n → ReadsInteger 10 None d.rest e.rest → ReadsExponent (Err MissingExponent) a.rest e.rest
exponent_broken n a b d e (c, is, t) g (same, none) = (λ r p x. broken is g none (subst (λ q. Exponent q r p) t.0 x), refl, (c, b.rest, n, t.0, is, rw same g, rw same none))

-- the part that makes a decimal
part_broken : (t s : Text) (a : Bool) → Fraction t s a → ((r : Text) (b : Bool) → Exponent s r b → ⊥) → (r : Text) → DecimalPart t r → ⊥
part_broken t s a f n r (part {s = u} {power = d} g h x y) = n r d (subst (λ z. Exponent z r d) (sym (fraction_det f g).0) h)

pub no_exponent_part : (e : NumberFault) (t s rest : Text) (a : Bool) → Fraction t s a → ReadsExponent (Err e) s rest → ReadsPart (Err e) t rest
no_exponent_part e t s rest a f (n, is, fault) = (part_broken t s a f n, rw is (s, a, f, fault))

pub no_part : (t s r : Text) (a b : Bool) → Fraction t s a → Exponent s r b → (a || b) ≡ false → ReadsPart (Err (Trailing TenDigits)) t r
no_part t s r a b f e h = (λ v d. let k = (part_is t s r v a b f e d).either in cc, (refl, stays f e h))
  where
    stays : {t s r : Text} {a b : Bool} → Fraction t s a → Exponent s r b → (a || b) ≡ false → r ≡ t
    stays (no_fraction x) (no_exponent y) h = refl
    stays (no_fraction x) (exponent y g i) h = cc
    stays (fraction i) e h = cc

pub part_trailing : (t s r q : Text) (a b : Bool) → Fraction t s a → Exponent s r b → false ≡ not (starts is_identifier_char r) → q ≡ r → ReadsPart (Err TrailingDecimal) t q
part_trailing t s r q a b f e h x =
    rw x (λ v d. let k = (part_is t s r v a b f e d).ends in let y : false ≡ true = h ∙ ap not k in cc, (s, a, b, f, e, not-false (starts is_identifier_char r) (sym h)))

pub part_read : (t s r q : Text) (a b : Bool) → Fraction t s a → Exponent s r b → (a || b) ≡ true → true ≡ not (starts is_identifier_char r) → q ≡ r → DecimalPart t q
part_read t s r q a b f e o h x = rw x (part f e o (not-true _ (sym h)))

is_ten : (r : Radix) → radix_of r ≡ 10 → r ≡ TenDigits
is_ten Binary e = absurd (omega (arith, e))
is_ten Octal e = absurd (omega (arith, e))
is_ten TenDigits e = refl
is_ten Hexadecimal e = absurd (omega (arith, e))

-- a base that isn't 10
pub not_ten : (r : Radix) → (r ≡ TenDigits → ⊥) → radix_of r ≡ 10 → ⊥
not_ten r n e = n (is_ten r e)

pub copied_costs : (p : Text) (a b e : Here) → a.rest ≡ p ++ b.rest → Costs 2 11 a b → e ≡ sliced p b → length b.rest < length a.rest → Costs 20 0 a e
copied_costs p a b e h k s less =
    let more : 1 ≤ bytes p = omega (arith, ap length h, length-append p b.rest, less, length-bytes p) in
    record {
      most = omega (arith, k.most, ap bytes h, bytes-append p b.rest, ap (λ z. z.steps) s, ap (λ z. bytes z.rest) s, more);
      least = omega (arith, k.least, ap (λ z. z.steps) s, ap (λ z. length z.rest) s);
    }

pub always : {A E : Type 0} (r : Result A E) (P : Type 0) → P → IfOk r (λ n. P)
always (Ok n) P h = h
always (Err x) P h = tt

-- the end of the text, seen by a look
pub at_end : (s : Text) (o : Option ℕ) (b : Bool) → o ≡ first s → is_some o ≡ not b → IsTrue b ↔ (s ≡ [])
at_end [] o true h e = (λ y. refl, λ y. refl)
at_end [] o false h e = let x : is_some o ≡ false = ap is_some h in cc
at_end (c ∷ s) o true h e = let x : is_some o ≡ true = ap is_some h in cc
at_end (c ∷ s) o false h e = (λ y. cc, λ y. cc)

-- texts without `_`
abbrev pub has_no_underscore : Text → Bool
has_no_underscore s = list_all (λ c. not (c == 95)) s

plain_shorter : (s : Text) → length (plain s) ≤ length s
plain_shorter [] = omega arith
plain_shorter (c ∷ s) = go (not (c == 95)) (plain_shorter s)
  where
    go : (b : Bool) → length (plain s) ≤ length s → length (cond b (c ∷ plain s) (plain s)) ≤ suc (length s)
    go true i = omega (arith, i)
    go false i = omega (arith, i)

pub plain_same : (s : Text) → has_no_underscore s ≡ true → plain s ≡ s
plain_same [] h = refl
plain_same (c ∷ s) h = go (not (c == 95)) h (plain_same s)
  where
    go : (b : Bool) → (b && has_no_underscore s) ≡ true → (has_no_underscore s ≡ true → plain s ≡ s) → cond b (c ∷ plain s) (plain s) ≡ c ∷ s
    go true h i = ap (λ z. c ∷ z) (i h)
    go false h i = cc

pub same_plain : (s : Text) → plain s ≡ s → has_no_underscore s ≡ true
same_plain [] h = refl
same_plain (c ∷ s) h = go (not (c == 95)) h (same_plain s) (plain_shorter s)
  where
    go : (b : Bool) → cond b (c ∷ plain s) (plain s) ≡ c ∷ s → (plain s ≡ s → has_no_underscore s ≡ true) → length (plain s) ≤ length s → (b && has_no_underscore s) ≡ true
    go true h i le = let e : plain s ≡ s = cc in i e
    go false h i le = absurd (omega (arith, ap length h, le))

own_text : {t w r : Text} → Decimal t r w → r ≡ [] → w ≡ t → plain t ≡ t
own_text {t = t} {w = w} {r = r} (decimal p a i d f g) e h =
    let x : p ≡ t = sym (append-nil p) ∙ ap (λ z. p ++ z) (sym e) ∙ sym f in
    ap plain (sym x) ∙ sym g ∙ h

-- whether the whole text is a decimal without `_`
module _ (s t : Text) (q : s ≡ t) where
  here : Decimal t [] t → IsNumber s [] (decimal_text t)
  here d = subst (λ x. IsNumber x [] (decimal_text t)) (sym q) (is_decimal d)

  pub plain_none : ((r : Text) (v : NumberValue) → IsNumber s r v → ⊥) → IsTrue false ↔ Decimal t [] t
  plain_none h = (λ y. cc, λ d. absurd (h [] (decimal_text t) (here d)))

  pub plain_integer : (z : ℤ) (r : Text) → WholeNumber s r z → IsTrue false ↔ Decimal t [] t
  plain_integer z r w = (λ y. cc, λ d. let e : whole_value z ≡ decimal_text t = (number_det (is_whole w) (here d)).1 in cc)

  module _ (v : Text) (piece : (p : Text) × (s ≡ p ++ v)) (x : (p : Text) → s ≡ p ++ v → Decimal s v (plain p)) where
    pub plain_rest : (b : Bool) → b ≡ false → (IsTrue b ↔ (v ≡ [])) → IsTrue b ↔ Decimal t [] t
    plain_rest b n h = (λ y. let z : IsTrue false = subst IsTrue n y in cc, λ d. h.1 (number_det (is_decimal (x piece.0 piece.1)) (here d)).0)

    pub plain_whole : (b : Bool) → v ≡ [] → b ≡ has_no_underscore t → IsTrue b ↔ Decimal t [] t
    plain_whole b n m = (λ y. to (sym m ∙ y), λ d. m ∙ same_plain t (own_text d refl refl))
      where
        to : has_no_underscore t ≡ true → Decimal t [] t
        to h =
            let d : Decimal s [] (plain s) = subst (λ r. Decimal s r (plain s)) n (x s (sym (append-nil s) ∙ ap (λ r. s ++ r) (sym n))) in
            subst (λ z. Decimal t [] z) (plain_same t h) (subst (λ z. Decimal z [] (plain z)) q d)

-- `_` is searched for in the bytes of a text
none_passes : (s : Text) → NonePass (λ c. c == 95) s → has_no_underscore s ≡ true
none_passes [] h = refl
none_passes (c ∷ s) h = rw h.0 (none_passes s h.1)

all_pass : (s : Text) → has_no_underscore s ≡ true → NonePass (λ c. c == 95) s
all_pass [] h = tt
all_pass (c ∷ s) h = go (c == 95) h (all_pass s)
  where
    go : (b : Bool) → (not b && has_no_underscore s) ≡ true → (has_no_underscore s ≡ true → NonePass (λ c. c == 95) s) → (b ≡ false) × NonePass (λ c. c == 95) s
    go false h i = (refl, i h)
    go true h i = cc

pub underscore_found : (bs : List ℕ) (r : Bool) → IsUtf8 bs → MatchBool r ((i : ℕ) × (j : ℕ) × FindsChar 95 bs (Some (i, j)) × (i ≤ j) × (j ≤ length bs)) (FindsChar 95 bs None) → not r ≡ has_no_underscore (chars bs)
underscore_found bs false u h = sym (subst (λ s. has_no_underscore s ≡ true) (chars_from_encodes h.0 bs u h.1) (none_passes h.0 h.2))
underscore_found bs true u h = go (has_no_underscore (chars bs)) refl
  where
    go : (b : Bool) → has_no_underscore (chars bs) ≡ b → false ≡ b
    go false e = refl
    go true e =
        let k = (contains_char 95 bs true h (omega arith)).0 refl in
        absurd (NoCharPasses-char 95 bs k.0 (chars bs, encodes-chars bs u, all_pass (chars bs) e) (omega arith) k.1 k.2)

-- a character and what follows it, without `_`
pub plain_drops : (c : ℕ) (s : Text) → c ≡ 95 → plain (c ∷ s) ≡ plain s
plain_drops c s e = rw e refl

pub plain_keeps : (c : ℕ) (s : Text) → (c ≡ 95 → ⊥) → plain (c ∷ s) ≡ c ∷ plain s
plain_keeps c s ne = rw (ne_eqb c 95 ne) refl
