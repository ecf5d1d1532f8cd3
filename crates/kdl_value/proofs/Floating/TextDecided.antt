-- Whether a text is that of a float is decided.
use Rattle.std.proofs.Common.{◌≡◌, ℕ, Bool, true, false, ◌||◌, ◌==◌, [], ◌∷◌, refl, sym, ap, subst, ◌∙◌, append-nil, ◌⊎◌, inl, inr}
use Rattle.std.proofs.Math.Logic.{∥∥₁_elim}
use Rattle.std.proofs.lemmas.Bool.{cases_Bool, eqb-true, true≢false}
use Rattle.std.proofs.lemmas.Slice.Eq.{bytes_eq-Decides}
use Rattle.std.specs.Prelude.{codes}
use Rattle.std.specs.Str.{bytes_eq}
use Rattle.kdl_text.specs.Chars.{Text, starts}
use Rattle.kdl_text.specs.Numbers.{is_digit_of, Sign, Digits, Integer, integer, Fraction, Exponent, is_exponent_letter, DecimalPart, part, plain, Decimal, decimal, FloatKeyword, FloatText}
use Rattle.kdl_text.proofs.Numeric.DecimalUnique.{part_is, fraction_det}
use Rattle.kdl_text.proofs.Numeric.NumberUnique.{sign_det, integer_det, integer_digit}

ten_underscore : is_digit_of 10 95 ≡ false
unfolding is_digit_of
ten_underscore = refl

record SomeSign (t : Text) : Type 0 where
  minus : Bool
  rest : Text
  sign : Sign t rest minus

some_sign : (t : Text) → SomeSign t
some_sign [] = record { minus = false; rest = []; sign = Sign.none refl }
some_sign (c ∷ t) =
    elim (cases_Bool (c == 43)) [
      | inl p ↦ record { minus = false; rest = t; sign = subst (λ (d : ℕ). Sign (d ∷ t) t false) (sym (eqb-true c 43 p)) Sign.plus }
      | inr p ↦ elim (cases_Bool (c == 45)) [
        | inl m ↦ record { minus = true; rest = t; sign = subst (λ (d : ℕ). Sign (d ∷ t) t true) (sym (eqb-true c 45 m)) Sign.minus }
        | inr m ↦ record { minus = false; rest = c ∷ t; sign = Sign.none (rw (p, m) refl) }
      ]
    ]

record SomeDigits (t : Text) : Type 0 where
  rest : Text
  read : Text
  digits : Digits 10 t rest read

some_digits : (t : Text) → SomeDigits t
some_digits [] = record { rest = []; read = []; digits = Digits.stop refl }
some_digits (c ∷ t) =
    let d = some_digits t in
    elim (cases_Bool (is_digit_of 10 c)) [
      | inl h ↦ record { rest = d.rest; read = c ∷ d.read; digits = Digits.digit h d.digits }
      | inr h ↦ elim (cases_Bool (c == 95)) [
        | inl m ↦ record { rest = d.rest; read = d.read; digits = subst (λ (e : ℕ). Digits 10 (e ∷ t) d.rest d.read) (sym (eqb-true c 95 m)) (Digits.underscore d.digits) }
        | inr m ↦ record { rest = c ∷ t; read = []; digits = Digits.stop (rw (h, m) refl) }
      ]
    ]

record SomeInteger (t : Text) : Type 0 where
  rest : Text
  read : Text
  int : Integer 10 t rest read

some_integer : (t : Text) → SomeInteger t ⊎ (starts (is_digit_of 10) t ≡ false)
some_integer [] = inr refl
some_integer (c ∷ t) =
    let d = some_digits t in
    elim (cases_Bool (is_digit_of 10 c)) [
      | inl h ↦ inl (record { rest = d.rest; read = c ∷ d.read; int = integer h d.digits })
      | inr h ↦ inr h
    ]

record SomeFraction (t : Text) : Type 0 where
  rest : Text
  point : Bool
  fraction : Fraction t rest point

NoFraction : Text → Type 0
NoFraction t = (r : Text) (b : Bool) → Fraction t r b → ⊥

never_point : (c : ℕ) (t : Text) → starts (is_digit_of 10) t ≡ false → (c == 46) ≡ true → (r : Text) (b : Bool) → Fraction (c ∷ t) r b → ⊥
never_point c t n h r b (Fraction.none x) = true≢false (sym h ∙ x)
never_point c t n h r b (Fraction.fraction i) = true≢false (sym (integer_digit i) ∙ n)

some_fraction : (t : Text) → SomeFraction t ⊎ NoFraction t
unfolding NoFraction
some_fraction [] = inl (record { rest = []; point = false; fraction = Fraction.none refl })
some_fraction (c ∷ t) = elim (cases_Bool (c == 46)) [ inl h ↦ following h (some_integer t) | inr h ↦ inl (record { rest = c ∷ t; point = false; fraction = Fraction.none h }) ]
  where
    following : (c == 46) ≡ true → SomeInteger t ⊎ (starts (is_digit_of 10) t ≡ false) → SomeFraction (c ∷ t) ⊎ ((r : Text) (b : Bool) → Fraction (c ∷ t) r b → ⊥)
    following h (inl i) = inl (record { rest = i.rest; point = true; fraction = subst (λ (d : ℕ). Fraction (d ∷ t) i.rest true) (sym (eqb-true c 46 h)) (Fraction.fraction i.int) })
    following h (inr n) = inr (never_point c t n h)

record SomeExponent (t : Text) : Type 0 where
  rest : Text
  power : Bool
  exponent : Exponent t rest power

NoExponent : Text → Type 0
NoExponent t = (r : Text) (b : Bool) → Exponent t r b → ⊥

never_exponent : (c : ℕ) (t : Text) → starts (is_digit_of 10) (some_sign t).rest ≡ false → is_exponent_letter c ≡ true → (r : Text) (b : Bool) → Exponent (c ∷ t) r b → ⊥
never_exponent c t n h r b (Exponent.none x) = true≢false (sym h ∙ x)
never_exponent c t n h r b (Exponent.exponent x g i) = true≢false (sym (integer_digit i) ∙ ap (starts (is_digit_of 10)) (sign_det g (some_sign t).sign).0 ∙ n)

some_exponent : (t : Text) → SomeExponent t ⊎ NoExponent t
unfolding NoExponent
some_exponent [] = inl (record { rest = []; power = false; exponent = Exponent.none refl })
some_exponent (c ∷ t) = elim (cases_Bool (is_exponent_letter c)) [ inl h ↦ following h (some_integer (some_sign t).rest) | inr h ↦ inl (record { rest = c ∷ t; power = false; exponent = Exponent.none h }) ]
  where
    following : is_exponent_letter c ≡ true → SomeInteger (some_sign t).rest ⊎ (starts (is_digit_of 10) (some_sign t).rest ≡ false) → SomeExponent (c ∷ t) ⊎ ((r : Text) (b : Bool) → Exponent (c ∷ t) r b → ⊥)
    following h (inl i) = inl (record { rest = i.rest; power = true; exponent = Exponent.exponent h (some_sign t).sign i.int })
    following h (inr n) = inr (never_exponent c t n h)

-- after its sign and its integer a decimal that is the whole text goes on
rest_part : {s t u w : Text} {m : Bool} → Sign s t m → Integer 10 t u w → Decimal s [] s → DecimalPart u [] × (plain s ≡ s)
rest_part {s = s} a i (decimal {u = v} {v = x} p b j e f g) =
    let j' = subst (λ (q : Text). Integer 10 q v x) (sym (sign_det a b).0) j in
    let same : s ≡ p = f ∙ append-nil p in
    (subst (λ (q : Text). DecimalPart q []) (sym (integer_det ten_underscore i j').0) e, sym (g ∙ ap plain (sym same)))

module _ (s : Text) where
  abbrev Decided : Type 0
  Decided = Decimal s [] s ⊎ (Decimal s [] s → ⊥)

  no_integer : {t : Text} {m : Bool} → Sign s t m → starts (is_digit_of 10) t ≡ false → Decimal s [] s → ⊥
  no_integer a n (decimal p b j e f g) = true≢false (sym (integer_digit j) ∙ ap (starts (is_digit_of 10)) (sym (sign_det a b).0) ∙ n)

  no_fraction_here : {u : Text} → NoFraction u → DecimalPart u [] → ⊥
  unfolding NoFraction
  no_fraction_here n (part f e x y) = n _ _ f

  no_exponent_here : {u v : Text} {b : Bool} → Fraction u v b → NoExponent v → DecimalPart u [] → ⊥
  unfolding NoExponent
  no_exponent_here f n (part {s = w} {r = r} {power = c} g e x y) = n [] c (subst (λ (q : Text). Exponent q [] c) (sym (fraction_det f g).0) e)

  at_rest : {t u v w r : Text} {m b c : Bool} → Sign s t m → Integer 10 t u w → Fraction u v b → Exponent v r c → Decided
  at_rest {u = u} {v = v} {r = r} {b = b} {c = c} a i f e = go r e (b || c) refl (bytes_eq (plain s) s) (bytes_eq-Decides (plain s) s)
    where
      go : (r : Text) → Exponent v r c → (o : Bool) → (b || c) ≡ o → (k : Bool) → (k ≡ true → plain s ≡ s) × (plain s ≡ s → k ≡ true) → Decided
      go (d ∷ r) e o h k p = inr (λ x. let y = (part_is u v (d ∷ r) [] b c f e (rest_part a i x).0).left in cc)
      go [] e false h k p = inr (λ x. true≢false (sym (part_is u v [] [] b c f e (rest_part a i x).0).either ∙ h))
      go [] e true h false p = inr (λ x. true≢false (sym (p.1 (rest_part a i x).1)))
      go [] e true h true p = inl (decimal s a i (part f e h refl) (sym (append-nil s)) (sym (p.0 refl)))

  decided : Decided
  decided = go (some_integer (some_sign s).rest)
    where
      third : {t u v w : Text} {m b : Bool} → Sign s t m → Integer 10 t u w → Fraction u v b → SomeExponent v ⊎ NoExponent v → Decided
      third a i f (inl e) = at_rest a i f e.exponent
      third a i f (inr n) = inr (λ x. no_exponent_here f n (rest_part a i x).0)

      second : {t u w : Text} {m : Bool} → Sign s t m → Integer 10 t u w → SomeFraction u ⊎ NoFraction u → Decided
      second a i (inl f) = third a i f.fraction (some_exponent f.rest)
      second a i (inr n) = inr (λ x. no_fraction_here n (rest_part a i x).0)

      go : SomeInteger (some_sign s).rest ⊎ (starts (is_digit_of 10) (some_sign s).rest ≡ false) → Decided
      go (inl i) = second (some_sign s).sign i.int (some_fraction i.rest)
      go (inr n) = inr (no_integer (some_sign s).sign n)

  word_decided : (w : Text) → (s ≡ w) ⊎ (s ≡ w → ⊥)
  word_decided w = go (bytes_eq s w) (bytes_eq-Decides s w)
    where
      go : (b : Bool) → (b ≡ true → s ≡ w) × (s ≡ w → b ≡ true) → (s ≡ w) ⊎ (s ≡ w → ⊥)
      go true d = inl (d.0 refl)
      go false d = inr (λ e. true≢false (sym (d.1 e)))

  keyword_decided : FloatKeyword s ⊎ (FloatKeyword s → ⊥)
  keyword_decided = go (word_decided (codes "#inf")) (word_decided (codes "#-inf")) (word_decided (codes "#nan"))
    where
      none : (s ≡ codes "#inf" → ⊥) → (s ≡ codes "#-inf" → ⊥) → (s ≡ codes "#nan" → ⊥) → FloatKeyword s → ⊥
      none a b c (inl e) = a e
      none a b c (inr (inl e)) = b e
      none a b c (inr (inr e)) = c e

      go : (s ≡ codes "#inf") ⊎ (s ≡ codes "#inf" → ⊥) → (s ≡ codes "#-inf") ⊎ (s ≡ codes "#-inf" → ⊥) → (s ≡ codes "#nan") ⊎ (s ≡ codes "#nan" → ⊥) → FloatKeyword s ⊎ (FloatKeyword s → ⊥)
      go (inl e) b c = inl (inl e)
      go (inr a) (inl e) c = inl (inr (inl e))
      go (inr a) (inr b) (inl e) = inl (inr (inr e))
      go (inr a) (inr b) (inr c) = inr (none a b c)

  -- what is known of memory's floats makes them floats' texts
  pub float_of : ∥ FloatText s ∥₁ → FloatText s
  float_of t = go decided keyword_decided
    where
      never : (Decimal s [] s → ⊥) → (FloatKeyword s → ⊥) → FloatText s → ⊥
      never n m (inl d) = n d
      never n m (inr k) = m k

      go : Decided → FloatKeyword s ⊎ (FloatKeyword s → ⊥) → FloatText s
      go (inl d) k = inl d
      go (inr n) (inl k) = inr k
      go (inr n) (inr m) = absurd (∥∥₁_elim t (hlevel) (never n m))
