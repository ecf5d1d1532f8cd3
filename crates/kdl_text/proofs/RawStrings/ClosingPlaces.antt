-- Closings of raw strings: where one begins, and where none does.
use Rattle.std.proofs.Common.{◌≡◌, ℕ, zero, suc, ◌<◌, ◌≤◌, true, false, ◌==◌, List, [], ◌∷◌, ◌++◌, refl, sym, ap, ◌∙◌, arith, add-one, ◌+◌, ◌-◌, eqb-true}
use Rattle.std.proofs.lemmas.Bool.{and_parts}
use Rattle.std.specs.Char.{len_utf8}
use Rattle.std.specs.List.{list_all}
use Rattle.kdl_text.specs.Dedent.{LineUnit, Literal}
use Rattle.kdl_text.specs.Internal.Here.{Here, Skips}
use Rattle.kdl_text.specs.Spans.{bytes}
use Rattle.kdl_text.specs.Chars.{Text, begins, begins_with, starts, times, is_raw, is_newline_char, is_banned}
use Rattle.kdl_text.specs.Raw.{closing, literals, char, RawUnits, none, more}

pub quote_raw : is_raw 34 ≡ true
unfolding is_raw is_newline_char is_banned
quote_raw = refl

pub sign_raw : is_raw 35 ≡ true
unfolding is_raw is_newline_char is_banned
sign_raw = refl

pub eq_same : (c : ℕ) → (c == c) ≡ true
eq_same c = grind arith

pub begins_own : (p r : Text) → begins_with p (p ++ r) ≡ true
begins_own [] r = refl
begins_own (c ∷ p) r = rw (eq_same c, begins_own p r) refl

-- fewer number signs than wanted
pub few_signs : (n j : ℕ) (t : Text) → j < n → begins 35 t ≡ false → begins_with (times n 35) (times j 35 ++ t) ≡ false
few_signs zero j t h k = absurd (omega arith)
few_signs (suc n) zero [] h k = refl
few_signs (suc n) zero (c ∷ t) h k = rw k refl
few_signs (suc n) (suc j) t h k = few_signs n j t (omega arith) k

-- a quote, and fewer number signs than wanted
pub short_closing : (n j : ℕ) (t : Text) → j < n → begins 35 t ≡ false → begins_with (closing 1 n) (34 ∷ times j 35 ++ t) ≡ false
short_closing n j t h k = few_signs n j t h k

-- a quote more than the closing has
pub long_quotes : (n : ℕ) (t : Text) → 0 < n → begins_with (closing 3 n) (34 ∷ 34 ∷ 34 ∷ 34 ∷ t) ≡ false
long_quotes zero t h = absurd (omega arith)
long_quotes (suc n) t h = refl

-- quotes, at none of which a closing begins
pub no_closing : (n k i : ℕ) (t : Text) → 0 < n → begins 34 t ≡ false → (2 ≤ k → begins_with (times n 35) t ≡ false) → i ≤ k → begins_with (closing 3 n) (times (suc i) 34 ++ t) ≡ false
no_closing n k zero [] some h few le = refl
no_closing n k zero (c ∷ t) some h few le = rw h refl
no_closing n k (suc zero) [] some h few le = refl
no_closing n k (suc zero) (c ∷ t) some h few le = rw h refl
no_closing n k (suc (suc zero)) t some h few le = few (omega arith)
no_closing n k (suc (suc (suc i))) t some h few le = long_quotes n (times i 34 ++ t) some

-- one character after another
pub quotes_pass : (n k i : ℕ) (t : Text) → 0 < n → begins 34 t ≡ false → (2 ≤ k → begins_with (times n 35) t ≡ false) → i ≤ suc k → RawUnits (closing 3 n) (times i 34 ++ t) t (literals (times i 34))
quotes_pass n k zero t some h few le = none
quotes_pass n k (suc i) t some h few le = more (char (no_closing n k i t some h few (omega arith)) quote_raw) (quotes_pass n k i t some h few (omega arith))

pub signs_pass : (p : Text) (j : ℕ) (t : Text) → RawUnits (34 ∷ p) (times j 35 ++ t) t (literals (times j 35))
signs_pass p zero t = none
signs_pass p (suc j) t = more (char refl sign_raw) (signs_pass p j t)

-- quotes before a closing
before_closing : (n m : ℕ) (t : Text) → 0 < n → begins_with (closing 3 n) (times (suc m) 34 ++ (closing 3 n ++ t)) ≡ false
before_closing n zero t some = long_quotes n _ some
before_closing n (suc zero) t some = long_quotes n _ some
before_closing n (suc (suc zero)) t some = long_quotes n _ some
before_closing n (suc (suc (suc m))) t some = long_quotes n _ some

pub quotes_before : (n m : ℕ) (t : Text) → 0 < n → RawUnits (closing 3 n) (times m 34 ++ (closing 3 n ++ t)) (closing 3 n ++ t) (literals (times m 34))
quotes_before n zero t some = none
quotes_before n (suc m) t some = more (char (before_closing n m t some) quote_raw) (quotes_before n m t some)

pub units_then : {p s t u : Text} {us vs : List LineUnit} → RawUnits p s t us → RawUnits p t u vs → RawUnits p s u (us ++ vs)
units_then none k = k
units_then (more i is) k = more i (units_then is k)

pub literals-append : (s t : Text) → literals (s ++ t) ≡ literals s ++ literals t
literals-append [] t = refl
literals-append (c ∷ s) t = ap (λ z. Literal c ∷ z) (literals-append s t)

apart : (a b : ℕ) (x y : Text) → a ≡ 34 → b ≡ 35 → a ∷ x ≡ b ∷ y → ⊥
apart a b x y d e h = let same : a ≡ b = cc in omega arith

-- number signs before a quote
pub signs_same : (n m : ℕ) (x y : Text) → times n 35 ++ 34 ∷ x ≡ times m 35 ++ 34 ∷ y → (n ≡ m) × (x ≡ y)
signs_same zero zero x y e = (refl, cc)
signs_same zero (suc m) x y e = absurd (apart 34 35 _ _ refl refl e)
signs_same (suc n) zero x y e = absurd (apart 34 35 _ _ refl refl (sym e))
signs_same (suc n) (suc m) x y e =
    let tails : times n 35 ++ 34 ∷ x ≡ times m 35 ++ 34 ∷ y = cc in
    let (same, ends) = signs_same n m x y tails in
    (ap suc same, ends)

pub no_signs : (n m : ℕ) (s x : Text) → begins 35 s ≡ false → (begins 34 s ≡ false) → times n 35 ++ s ≡ times m 35 ++ 34 ∷ x → ⊥
no_signs zero zero [] x h k e = cc
no_signs zero zero (c ∷ s) x h k e = let same : c ≡ 34 = cc in cc (rw same at k)
no_signs zero (suc m) [] x h k e = cc
no_signs zero (suc m) (c ∷ s) x h k e = let same : c ≡ 35 = cc in cc (rw same at h)
no_signs (suc n) zero s x h k e = apart 34 35 _ _ refl refl (sym e)
no_signs (suc n) (suc m) s x h k e = let tails : times n 35 ++ s ≡ times m 35 ++ 34 ∷ x = cc in no_signs n m s x h k tails

-- so many times a character, and once more
pub times_next : (k c : ℕ) (s : Text) → times k c ++ (c ∷ s) ≡ times (k + 1) c ++ s
times_next k c s = rw (add-one) (go k)
  where
    go : (k : ℕ) → times k c ++ (c ∷ s) ≡ c ∷ (times k c ++ s)
    go zero = refl
    go (suc k) = ap (λ z. c ∷ z) (go k)

all_same : (d : ℕ) (run : Text) → len_utf8 d ≡ 1 → list_all (λ c. c == d) run ≡ true → run ≡ times (bytes run) d
all_same d [] one h = refl
all_same d (c ∷ s) one h =
    let (here, rest) = and_parts (c == d) _ h in
    let same : c ≡ d = eqb-true c d here in
    let n : len_utf8 c + bytes s ≡ suc (bytes s) = omega (arith, ap len_utf8 same) in
    ap (λ z. z ∷ s) same ∙ ap (λ z. d ∷ z) (all_same d s one rest) ∙ ap (λ k. times k d) (sym n)

-- a run of one character, counted by its bytes
pub counted : (d : ℕ) (a b : Here) (from to : ℕ) → len_utf8 d ≡ 1 → Skips (λ c. c == d) a b → from ≡ a.at → to ≡ b.at → a.rest ≡ times (to - from) d ++ b.rest
counted d a b from to one (run, r) e f =
    let n : to - from ≡ bytes run = omega (arith, r.at) in
    r.text ∙ ap (λ z. z ++ b.rest) (all_same d run one r.all ∙ ap (λ k. times k d) (sym n))

pub none_left : (d : ℕ) (s : Text) → starts (λ c. c == d) s ≡ false → begins d s ≡ false
none_left d [] h = refl
none_left d (c ∷ s) h = h
