-- The lines of a text, by its bytes.
use Rattle.std.proofs.Common.{◌≡◌, ℕ, zero, suc, ◌+◌, ◌-◌, ◌<◌, ◌≤◌, true, false, not, ◌&&◌, ◌||◌, ◌==◌, List, [], ◌∷◌, ◌++◌, append-nil, get_or, length, drop, refl, sym, ap, ◌∙◌, subst, arith, inl, inr, if◌then◌else◌}
use Rattle.std.proofs.lemmas.Bool.{and_left, cases_Bool, cases_lt, cond-true, cond-false, ne_eqb, or_from}
use Rattle.std.proofs.lemmas.List.{drop-drop, drop_all, drop_more, get_or-drop, length-drop}
use Rattle.std.proofs.lemmas.Str.{IsCharBoundary-from_drop, chars-encodes, encode_ascii, encodes-chars, inside_one, len_utf8_bounds, length-encode, scalars-chars}
use Rattle.std.specs.Str.{IsCharBoundary, IsUtf8, chars}
use lib.Utf8.{encode, encodes, scalars}
use Rattle.lsp_text.specs.Positions.{Text, after_line, begins_feed, ends_line, from_line, lines_before}
use Rattle.lsp_text.proofs.Places.{from_line_nil, from_line_rest, scalars_after}

-- ---- a character that is not ASCII ends no line, and no byte of it does

abbrev AreHigh : List ℕ → Type 0
AreHigh xs = (k : ℕ) → k < length xs → 128 ≤ get_or xs k 0

high_bytes : (c : ℕ) → 128 ≤ c → AreHigh (encode c)
high_bytes c big k below = elim (cases_lt (get_or (encode c) k 0) 128) [
  | inl low ↦ absurd (omega (arith, inside_one c [] (encode c) k (sym (append-nil _)) below low))
  | inr h ↦ h
]

high_ends : (c : ℕ) (t : Text) → 128 ≤ c → ends_line c t ≡ false
high_ends c t h = or_from _ _ (ne_eqb c 10 (λ e. omega (arith, e, h))) (and_left _ _ (ne_eqb c 13 (λ e. omega (arith, e, h))))

high_after : (xs t : Text) → AreHigh xs → after_line (xs ++ t) ≡ after_line t
high_after [] t h = refl
high_after (x ∷ xs) t h = cond-false _ _ _ (high_ends x (xs ++ t) (h 0 (omega arith))) ∙ high_after xs t (λ k below. h (suc k) (omega arith))

high_begins : (xs t : Text) → 0 < length xs → AreHigh xs → begins_feed (xs ++ t) ≡ false
high_begins [] t some h = absurd (omega (arith, some))
high_begins (x ∷ xs) t some h = let big : 128 ≤ x = h 0 (omega arith) in ne_eqb x 10 (λ e. omega (arith, e, big))

-- ---- the lines of the bytes are those of the characters

feed_bytes : (t : Text) → begins_feed (encodes t) ≡ begins_feed t
feed_bytes [] = refl
feed_bytes (c ∷ t) = elim (cases_lt c 128) [
  | inl low ↦ ap (λ z. begins_feed (z ++ encodes t)) (encode_ascii c low)
  | inr big ↦ high_begins (encode c) (encodes t) (omega (arith, length-encode c, (len_utf8_bounds c).0)) (high_bytes c big) ∙ sym (ne_eqb c 10 (λ e. omega (arith, e, big)))
]

after_ascii : (c : ℕ) (t : Text) → after_line (encodes t) ≡ encodes (after_line t) → after_line (c ∷ encodes t) ≡ encodes (after_line (c ∷ t))
after_ascii c t i =
    let same : ends_line c (encodes t) ≡ ends_line c t = ap (λ z. c == 10 || (c == 13 && not z)) (feed_bytes t) in
    elim (cases_Bool (ends_line c t)) [
      | inl h ↦ cond-true _ _ _ (same ∙ h) ∙ ap encodes (sym (cond-true _ _ _ h))
      | inr h ↦ cond-false _ _ _ (same ∙ h) ∙ i ∙ ap encodes (sym (cond-false _ _ _ h))
    ]

after_bytes : (t : Text) → after_line (encodes t) ≡ encodes (after_line t)
after_bytes [] = refl
after_bytes (c ∷ t) = elim (cases_lt c 128) [
  | inl low ↦ ap (λ z. after_line (z ++ encodes t)) (encode_ascii c low) ∙ after_ascii c t (after_bytes t)
  | inr big ↦ high_after (encode c) (encodes t) (high_bytes c big) ∙ after_bytes t ∙ ap encodes (sym (cond-false _ _ _ (high_ends c t big)))
]

from_bytes : (n : ℕ) (t : Text) → from_line n (encodes t) ≡ encodes (from_line n t)
from_bytes zero t = refl
from_bytes (suc n) t = ap (from_line n) (after_bytes t) ∙ from_bytes n (after_line t)

-- a line of the bytes starts at a character
pub record IsStart (n at : ℕ) (bs : List ℕ) : Type 0 where
  pub boundary : IsCharBoundary bs at
  pub text : chars (drop at bs) ≡ from_line n (chars bs)

pub is_start : (n at : ℕ) (bs ds : List ℕ) → IsUtf8 bs → ds ≡ bs → at ≤ length ds → drop at ds ≡ from_line n ds → IsStart n at bs
is_start n at bs ds u same le e =
    let t = from_line n (chars bs) in
    let r = from_line_rest n (chars bs) in
    let ok : scalars t ≡ true = scalars_after r.0 t (subst (λ z. scalars z ≡ true) r.1 (scalars-chars bs u)) in
    let w : drop at bs ≡ encodes t = ap (drop at) (sym same) ∙ e ∙ ap (from_line n) (same ∙ sym (encodes-chars bs u)) ∙ from_bytes n (chars bs) in
    record {
      boundary = IsCharBoundary-from_drop bs at (omega (arith, le, ap length same)) (t, (ok, sym w));
      text = ap chars w ∙ chars-encodes t ok;
    }

-- ---- one byte after another

pub line_ends : (n at : ℕ) (bs : List ℕ) → 0 < n → at < length bs → ends_line (get_or bs at 0) (drop (at + 1) bs) ≡ true → from_line (n - 1) (drop (at + 1) bs) ≡ from_line n (drop at bs)
line_ends zero at bs some below h = absurd (omega (arith, some))
line_ends (suc n) at bs some below h =
    let m : suc n - 1 ≡ n = omega arith in
    ap (λ z. from_line z (drop (at + 1) bs)) m ∙ ap (from_line n) (sym (cond-true _ _ _ h)) ∙ ap (from_line (suc n)) (sym (drop_more bs at 0 below))

pub line_goes_on : (n at : ℕ) (bs : List ℕ) → 0 < n → at < length bs → ends_line (get_or bs at 0) (drop (at + 1) bs) ≡ false → from_line n (drop (at + 1) bs) ≡ from_line n (drop at bs)
line_goes_on zero at bs some below h = absurd (omega (arith, some))
line_goes_on (suc n) at bs some below h = ap (from_line n) (sym (cond-false _ _ _ h)) ∙ ap (from_line (suc n)) (sym (drop_more bs at 0 below))

pub none_left : (n at : ℕ) (bs : List ℕ) → length bs ≤ at → drop at bs ≡ from_line n (drop at bs)
none_left n at bs h = drop_all at bs h ∙ sym (from_line_nil n) ∙ ap (from_line n) (sym (drop_all at bs h))

-- ---- many bytes at once

pub lines_before_le : (k : ℕ) (t : Text) → lines_before k t ≤ k
lines_before_le zero t = omega arith
lines_before_le (suc k) [] = omega arith
lines_before_le (suc k) (c ∷ t) = elim (cases_Bool (ends_line c t)) [
  | inl h ↦ omega (arith, cond-true (ends_line c t) (suc (lines_before k t)) (lines_before k t) h, lines_before_le k t)
  | inr h ↦ omega (arith, cond-false (ends_line c t) (suc (lines_before k t)) (lines_before k t) h, lines_before_le k t)
]

pub lines_passed : (k n : ℕ) (t : Text) → lines_before k t < n → from_line (n - lines_before k t) (drop k t) ≡ from_line n t
lines_passed zero n t h = let m : n - 0 ≡ n = omega arith in ap (λ z. from_line z t) m
lines_passed (suc k) n [] h = from_line_nil (n - 0) ∙ sym (from_line_nil n)
lines_passed (suc k) zero (c ∷ t) h = absurd (omega (arith, h))
lines_passed (suc k) (suc n) (c ∷ t) h = elim (cases_Bool (ends_line c t)) [
  | inl e ↦
      let m : lines_before (suc k) (c ∷ t) ≡ suc (lines_before k t) = cond-true _ _ _ e in
      let l : suc n - lines_before (suc k) (c ∷ t) ≡ n - lines_before k t = omega (arith, m) in
      ap (λ z. from_line z (drop k t)) l ∙ lines_passed k n t (omega (arith, m, h)) ∙ ap (from_line n) (sym (cond-true _ _ _ e))
  | inr e ↦
      let m : lines_before (suc k) (c ∷ t) ≡ lines_before k t = cond-false _ _ _ e in
      ap (λ z. from_line (suc n - z) (drop k t)) m ∙ lines_passed k (suc n) t (omega (arith, m, h)) ∙ ap (from_line n) (sym (cond-false _ _ _ e))
]

lines_before_more : (k : ℕ) (t : Text) → k < length t → lines_before (suc k) t ≡ lines_before k t + (if ends_line (get_or t k 0) (drop (suc k) t) then 1 else 0)
lines_before_more k [] h = absurd (omega (arith, h))
lines_before_more zero (c ∷ t) h = elim (cases_Bool (ends_line c t)) [
  | inl e ↦ omega (arith, cond-true {A = ℕ} (ends_line c t) 1 0 e)
  | inr e ↦ omega (arith, cond-false {A = ℕ} (ends_line c t) 1 0 e)
]
lines_before_more (suc k) (c ∷ t) h =
    let i = lines_before_more k t (omega (arith, h)) in
    elim (cases_Bool (ends_line c t)) [
      | inl e ↦ omega (arith, i, cond-true (ends_line c t) (suc (lines_before (suc k) t)) (lines_before (suc k) t) e, cond-true (ends_line c t) (suc (lines_before k t)) (lines_before k t) e)
      | inr e ↦ omega (arith, i, cond-false (ends_line c t) (suc (lines_before (suc k) t)) (lines_before (suc k) t) e, cond-false (ends_line c t) (suc (lines_before k t)) (lines_before k t) e)
    ]

-- one more byte, with another after it
pub block_more : (i start k : ℕ) (bs : List ℕ) → start + i + 1 < length bs
    → k ≡ (if get_or bs (start + i) 0 == 10 || (get_or bs (start + i) 0 == 13 && not (get_or bs (start + i + 1) 0 == 10)) then 1 else 0)
    → lines_before i (drop start bs) + k ≡ lines_before (i + 1) (drop start bs)
block_more i start k bs h e =
    let at = start + i in
    let m : start + suc i ≡ at + 1 = omega arith in
    let n : suc i ≡ i + 1 = omega arith in
    let rest : drop (suc i) (drop start bs) ≡ get_or bs (at + 1) 0 ∷ drop (at + 1 + 1) bs = drop-drop (suc i) start bs ∙ ap (λ z. drop z bs) m ∙ drop_more bs (at + 1) 0 h in
    let ends : ends_line (get_or (drop start bs) i 0) (drop (suc i) (drop start bs)) ≡ (get_or bs at 0 == 10 || (get_or bs at 0 == 13 && not (get_or bs (at + 1) 0 == 10))) =
    ap (λ z. ends_line (get_or (drop start bs) i 0) z) rest ∙ ap (λ z. z == 10 || (z == 13 && not (get_or bs (at + 1) 0 == 10))) (get_or-drop start bs i 0) in
    let one : (if ends_line (get_or (drop start bs) i 0) (drop (suc i) (drop start bs)) then 1 else 0) ≡ k = ap (λ z. if z then 1 else 0) ends ∙ sym e in
    sym (ap (λ z. lines_before z (drop start bs)) (sym n) ∙ lines_before_more i (drop start bs) (omega (arith, length-drop start bs, h)) ∙ ap (λ z. lines_before i (drop start bs) + z) one)

-- ---- lines from a line on

pub from_line_add : (m n : ℕ) (t : Text) → from_line n (from_line m t) ≡ from_line (m + n) t
from_line_add zero n t = let e : n ≡ 0 + n = omega arith in ap (λ z. from_line z t) e
from_line_add (suc m) n t = from_line_add m n (after_line t) ∙ (let e : suc (m + n) ≡ suc m + n = omega arith in ap (λ z. from_line z t) e)
