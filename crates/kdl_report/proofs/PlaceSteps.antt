-- The text before a byte, and its newlines and last line, when a unit is read.
use Rattle.std.proofs.Common.{◌≡◌, ℕ, suc, ◌+◌, ◌-◌, ◌<◌, ◌≤◌, Bool, true, false, not, cond, ◌&&◌, ◌||◌, nat_eq, [], ◌∷◌, ◌++◌, length, refl, sym, ap, ◌∙◌, zero-add, arith, inl, inr}
use Rattle.std.proofs.lemmas.Bool.{le-leb, lt-leb, eqb-true, cases_lt, cond-true, cond-false, cond_both, and_from, and_left, and_right, cases_Bool, or_parts}
use Rattle.std.proofs.lemmas.Str.{len_utf8_bounds}
use Rattle.std.proofs.lemmas.List.Folds.{list_any-append}
use Rattle.std.specs.Char.{len_utf8}
use Rattle.std.specs.List.{list_any}
use Rattle.kdl_text.specs.Chars.{Text, begins, is_newline_char}
use Rattle.kdl_text.specs.Spans.{bytes}
use Rattle.kdl_report.specs.Places.{is_cr_lf, newlines, last_line, first_line, first_bytes, before, from}
use Rattle.kdl_report.specs.Spots.{IsUnit}
use Rattle.kdl_report.specs.Spots.IsUnit.{cr_lf, one}

or_from_right : (x y : Bool) → y ≡ true → (x || y) ≡ true
or_from_right true y h = refl
or_from_right false y h = h

or_none : (x y : Bool) → y ≡ false → (x || y) ≡ x
or_none true y h = refl
or_none false y h = h

-- ---- the text before a byte, and from it on

pub before_fits : (n c : ℕ) (s : Text) → first_bytes c s ≤ n → before n (c ∷ s) ≡ c ∷ before (n - len_utf8 c) s
before_fits n c s h = cond-true _ _ _ (le-leb (first_bytes c s) n h)

pub before_stops : (n c : ℕ) (s : Text) → n < first_bytes c s → before n (c ∷ s) ≡ []
before_stops n c s h = cond-false _ _ _ (lt-leb (first_bytes c s) n h)

pub from_fits : (n c : ℕ) (s : Text) → first_bytes c s ≤ n → from n (c ∷ s) ≡ from (n - len_utf8 c) s
from_fits n c s h = cond-true _ _ _ (le-leb (first_bytes c s) n h)

pub from_stops : (n c : ℕ) (s : Text) → n < first_bytes c s → from n (c ∷ s) ≡ c ∷ s
from_stops n c s h = cond-false _ _ _ (lt-leb (first_bytes c s) n h)

pub before-from : (n : ℕ) (t : Text) → before n t ++ from n t ≡ t
before-from n [] = refl
before-from n (c ∷ s) = elim (cases_lt n (first_bytes c s)) [
  | inl h ↦ rw (before_stops n c s h, from_stops n c s h) refl
  | inr h ↦ rw (before_fits n c s h, from_fits n c s h) (ap (λ z. c ∷ z) (before-from (n - len_utf8 c) s))
]

one_byte : (c : ℕ) (s : Text) → 1 ≤ first_bytes c s
one_byte c s = cond_both (is_cr_lf c s) 2 (len_utf8 c) (λ n. 1 ≤ n) (λ _. omega arith) (λ _. (len_utf8_bounds c).0)

pub before_zero : (t : Text) → before 0 t ≡ []
before_zero [] = refl
before_zero (c ∷ s) = before_stops 0 c s (omega (arith, one_byte c s))

pub from_zero : (t : Text) → from 0 t ≡ t
from_zero [] = refl
from_zero (c ∷ s) = from_stops 0 c s (omega (arith, one_byte c s))

-- where m is a place, the way to n goes by it
pub record Goes (m n : ℕ) (t : Text) : Type 0 where
  pub before : before n t ≡ before m t ++ before (n - m) (from m t)
  pub from : from n t ≡ from (n - m) (from m t)

goes_none : (m n : ℕ) (t : Text) → 0 ≡ m → before m t ≡ [] → from m t ≡ t → Goes m n t
goes_none m n t e b f =
    let k : n - m ≡ n = omega arith in
    record { before = rw (b, f, k) refl; from = rw (f, k) refl }

pub goes : (m n : ℕ) (t : Text) → bytes (before m t) ≡ m → m ≤ n → Goes m n t
goes m n [] e h = record { before = refl; from = refl }
goes m n (c ∷ s) e h = elim (cases_lt m (first_bytes c s)) [
  | inl l ↦ goes_none m n (c ∷ s) (sym (ap bytes (before_stops m c s l)) ∙ e) (before_stops m c s l) (from_stops m c s l)
  | inr l ↦
      let len : ℕ = len_utf8 c in
      let e' : len + bytes (before (m - len) s) ≡ m = sym (ap bytes (before_fits m c s l)) ∙ e in
      let i : Goes (m - len) (n - len) s = goes (m - len) (n - len) s (omega (arith, e')) (omega arith) in
      let k : (n - len) - (m - len) ≡ n - m = omega (arith, e') in
      let fn : first_bytes c s ≤ n = omega (arith, l, h) in
      record {
        before = rw (before_fits n c s fn, before_fits m c s l, from_fits m c s l, i.before, k) refl;
        from = rw (from_fits n c s fn, from_fits m c s l, i.from, k) refl;
      }
]

-- ---- a unit

pub unit_before : (x r : Text) (newline : Bool) → IsUnit x r newline → (before (bytes x) (x ++ r) ≡ x) × (from (bytes x) (x ++ r) ≡ r)
unit_before _ _ _ (cr_lf {r = r}) = (ap (λ z. 13 ∷ 10 ∷ z) (before_zero r), from_zero r)
unit_before _ _ _ (one {c = c} {r = r} {newline = newline} plain class) =
    let fb : first_bytes c r ≡ len_utf8 c = cond-false _ _ _ plain in
    let fits : first_bytes c r ≤ len_utf8 c + 0 = omega (arith, fb) in
    let none : (len_utf8 c + 0) - len_utf8 c ≡ 0 = omega arith in
    (rw (before_fits _ c r fits, none, before_zero r) refl, rw (from_fits _ c r fits, none, from_zero r) refl)

pub unit_bytes : (x r : Text) (newline : Bool) → IsUnit x r newline → 1 ≤ bytes x
unit_bytes _ _ _ (cr_lf {r = r}) = omega arith
unit_bytes _ _ _ (one {c = c} {r = r} {newline = newline} plain class) = omega (arith, (len_utf8_bounds c).0)

-- ---- newlines

-- a front that ends before a CR LF has no LF after a CR at its end
keeps_lf : (p x y s : Text) → p ++ (x ++ y) ≡ s → (p ≡ [] → begins 10 s ≡ false) → begins 10 (p ++ x) ≡ begins 10 p
keeps_lf [] [] y s e h = refl
keeps_lf [] (d ∷ x) y s e h = ap (begins 10) e ∙ h refl
keeps_lf (d ∷ p) x y s e h = refl

no_lf_left : (n c : ℕ) (s : Text) → nat_eq c 13 ≡ true → first_bytes c s ≤ n → before (n - len_utf8 c) s ≡ [] → begins 10 s ≡ false
no_lf_left n c [] e h b = refl
no_lf_left n c (d ∷ s) e h b = elim (cases_Bool (nat_eq d 10)) [
  | inr not_so ↦ not_so
  | inl does ↦
      let c13 : c ≡ 13 = eqb-true c 13 e in
      let d10 : d ≡ 10 = eqb-true d 10 does in
      let two : first_bytes c (d ∷ s) ≡ 2 = cond-true _ _ _ (and_from _ _ e does) in
      let l1 : len_utf8 c ≡ 1 = ap len_utf8 c13 in
      let fd : first_bytes d s ≡ 1 = ap (λ z. first_bytes z s) d10 in
      let full = before_fits (n - len_utf8 c) d s (omega (arith, two, l1, fd, h)) in
      absurd (cc (full, b))
]

cr_lf_stays : (n c : ℕ) (s x y : Text) → first_bytes c s ≤ n → from (n - len_utf8 c) s ≡ x ++ y → is_cr_lf c (before (n - len_utf8 c) s ++ x) ≡ is_cr_lf c (before (n - len_utf8 c) s)
cr_lf_stays n c s x y h f = elim (cases_Bool (nat_eq c 13)) [
  | inr not_so ↦ and_left _ _ not_so ∙ sym (and_left _ _ not_so)
  | inl does ↦ ap (λ z. nat_eq c 13 && z) (keeps_lf (before (n - len_utf8 c) s) x y s (ap (λ z. before (n - len_utf8 c) s ++ z) (sym f) ∙ before-from (n - len_utf8 c) s) (λ b. no_lf_left n c s does h b))
]

newlines_step : (b d : Bool) (j k m : ℕ) → b ≡ d → j ≡ k + m → cond b (suc j) j ≡ cond d (suc k) k + m
newlines_step true d j k m e h = rw (← e) (omega (arith, h))
newlines_step false d j k m e h = rw (← e) h

pub newlines_more : (n : ℕ) (t x y : Text) → from n t ≡ x ++ y → newlines (before n t ++ x) ≡ newlines (before n t) + newlines x
newlines_more n [] x y f = sym (zero-add (newlines x))
newlines_more n (c ∷ s) x y f = elim (cases_lt n (first_bytes c s)) [
  | inl h ↦ rw (before_stops n c s h) (sym (zero-add (newlines x)))
  | inr h ↦
      let f' : from (n - len_utf8 c) s ≡ x ++ y = sym (from_fits n c s h) ∙ f in
      rw (before_fits n c s h)
      (newlines_step _ _ _ _ _ (ap (λ z. is_newline_char c && not z) (cr_lf_stays n c s x y h f')) (newlines_more (n - len_utf8 c) s x y f'))
]

and_true : (b : Bool) (m n : ℕ) → cond (b && true) m n ≡ cond b m n
and_true true m n = refl
and_true false m n = refl

pub newlines_unit : (x r : Text) (newline : Bool) → IsUnit x r newline → newlines x ≡ cond newline 1 0
unfolding is_newline_char
newlines_unit _ _ _ (cr_lf {r = r}) = refl
newlines_unit _ _ _ (one {c = c} {r = r} {newline = newline} plain class) =
    let none : is_cr_lf c [] ≡ false = and_right _ _ refl in
    rw (none, class) (and_true newline 1 0)

-- ---- the last line

last_line_all : (x : Text) → list_any is_newline_char x ≡ false → last_line x ≡ x
last_line_all [] h = refl
last_line_all (c ∷ s) h = cond-false _ _ _ h

pub last_line_newline : (p x : Text) → list_any is_newline_char x ≡ true → last_line (p ++ x) ≡ last_line x
last_line_newline [] x h = refl
last_line_newline (c ∷ p) x h =
    cond-true _ _ _ (list_any-append is_newline_char (c ∷ p) x ∙ or_from_right _ _ h) ∙ last_line_newline p x h

pub last_line_plain : (p x : Text) → list_any is_newline_char x ≡ false → last_line (p ++ x) ≡ last_line p ++ x
last_line_plain [] x h = last_line_all x h
last_line_plain (c ∷ p) x h =
    let same : list_any is_newline_char ((c ∷ p) ++ x) ≡ list_any is_newline_char (c ∷ p) = list_any-append is_newline_char (c ∷ p) x ∙ or_none _ _ h in
    elim (cases_Bool (list_any is_newline_char (c ∷ p))) [
      | inl does ↦ cond-true _ _ _ (same ∙ does) ∙ last_line_plain p x h ∙ ap (λ z. z ++ x) (sym (cond-true _ _ _ does))
      | inr not_so ↦ cond-false _ _ _ (same ∙ not_so) ∙ ap (λ z. z ++ x) (sym (cond-false _ _ _ not_so))
    ]

pub any_unit : (x r : Text) (newline : Bool) → IsUnit x r newline → list_any is_newline_char x ≡ newline
unfolding is_newline_char
any_unit _ _ _ (cr_lf {r = r}) = refl
any_unit _ _ _ (one {c = c} {r = r} {newline = newline} plain class) = or_none _ _ refl ∙ class

pub last_line_unit : (x r : Text) → IsUnit x r true → last_line x ≡ []
unfolding is_newline_char
last_line_unit _ _ (cr_lf {r = r}) = refl
last_line_unit _ _ (one {c = c} {r = r} plain class) = cond-true _ _ _ (or_none _ _ refl ∙ class)

-- ---- sizes

pub newlines_size : (t : Text) → newlines t ≤ length t
newlines_size [] = omega arith
newlines_size (c ∷ s) = cond_both (is_newline_char c && not (is_cr_lf c s)) _ _ (λ n. n ≤ suc (length s)) (λ _. omega (arith, newlines_size s)) (λ _. omega (arith, newlines_size s))

pub last_line_size : (t : Text) → length (last_line t) ≤ length t
last_line_size [] = omega arith
last_line_size (c ∷ s) = cond_both (list_any is_newline_char (c ∷ s)) _ _ (λ l. length l ≤ suc (length s)) (λ _. omega (arith, last_line_size s)) (λ _. omega arith)

pub length_bytes : (t : Text) → length t ≤ bytes t
length_bytes [] = omega arith
length_bytes (c ∷ s) = omega (arith, length_bytes s, (len_utf8_bounds c).0)

pub bytes-append : (x y : Text) → bytes (x ++ y) ≡ bytes x + bytes y
bytes-append [] y = sym (zero-add (bytes y))
bytes-append (c ∷ x) y = omega (arith, bytes-append x y)

pub unit_length : (x r : Text) (newline : Bool) → IsUnit x r newline → newline ≡ false → length x ≡ 1
unit_length _ _ _ (cr_lf {r = r}) e = absurd (cc e)
unit_length _ _ _ (one {c = c} {r = r} {newline = newline} plain class) e = refl

-- the last line of a text has no newline
pub last_line_single : (t : Text) → list_any is_newline_char (last_line t) ≡ false
last_line_single [] = refl
last_line_single (c ∷ s) = elim (cases_Bool (list_any is_newline_char (c ∷ s))) [
  | inl does ↦ ap (list_any is_newline_char) (cond-true _ _ _ does) ∙ last_line_single s
  | inr none ↦ ap (list_any is_newline_char) (cond-false _ _ _ none) ∙ none
]

pub first_line_single : (x y : Text) → list_any is_newline_char x ≡ false → first_line (x ++ y) ≡ x ++ first_line y
first_line_single [] y h = refl
first_line_single (c ∷ x) y h =
    let parts = or_parts (is_newline_char c) (list_any is_newline_char x) h in
    cond-false _ _ _ parts.0 ∙ ap (λ z. c ∷ z) (first_line_single x y parts.1)
