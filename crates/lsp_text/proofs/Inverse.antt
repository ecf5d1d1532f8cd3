-- The position of a character, and the character of a position, are inverse.
use Rattle.std.proofs.Common.{◌≡◌, ℕ, zero, suc, ◌+◌, ◌-◌, ◌≤◌, true, false, not, ◌&&◌, ◌||◌, ◌==◌, nat_le, [], ◌∷◌, length, take, drop, refl, sym, ap, ◌∙◌, subst, arith, inl, inr}
use Rattle.std.proofs.lemmas.Bool.{cases_Bool, cond-true, cond-false, eqb-true, le-leb, lt-leb, or_from, or_left, or_parts}
use Rattle.std.proofs.lemmas.List.{drop-take, length-take, length-take-le}
use Rattle.std.proofs.lemmas.Str.{len_utf8_bounds}
use Rattle.lsp_text.specs.declared.position.Encoding.{Encoding}
use Rattle.lsp_text.specs.declared.position.Encoding.TheVariants.{Utf8, Utf16, Utf32}
use Rattle.lsp_text.specs.declared.position.Position.{Position}
use Rattle.lsp_text.specs.Positions.{IsExact, IsInLineEnd, Text, begins_feed, ends_line, first_line, from_line, front, index, index_of_byte, line, line_start, lines_before, offset, position, size, units, units_before}
use Rattle.lsp_text.proofs.Places.{before_feed, from_line_le, line_start_drop, same_position, start_ends, start_goes}

-- ---- fronts

pub units_least : (e : Encoding) (c : ℕ) → 1 ≤ units e c
units_least Utf8 c = (len_utf8_bounds c).0
units_least Utf16 c = grind arith
units_least Utf32 c = omega arith

pub front_zero : (e : Encoding) (y : Text) → front e 0 y ≡ []
front_zero e [] = refl
front_zero e (c ∷ y) = cond-false _ _ _ (lt-leb (units e c) 0 (units_least e c))

pub front_fits : (e : Encoding) (n c : ℕ) (y : Text) → units e c ≤ n → front e n (c ∷ y) ≡ c ∷ front e (n - units e c) y
front_fits e n c y h = cond-true _ _ _ (le-leb (units e c) n h)

-- the front of as many units as a part of the text takes is that part
pub front_size : (e : Encoding) (j : ℕ) (y : Text) → front e (size e (take j y)) y ≡ take j y
front_size e zero y = front_zero e y
front_size e (suc j) [] = refl
front_size e (suc j) (c ∷ y) =
    let n : (units e c + size e (take j y)) - units e c ≡ size e (take j y) = omega arith in
    front_fits e (units e c + size e (take j y)) c y (omega arith) ∙ ap (λ z. c ∷ front e z y) n ∙ ap (λ z. c ∷ z) (front_size e j y)

pub front_take : (e : Encoding) (n : ℕ) (y : Text) → take (length (front e n y)) y ≡ front e n y
front_take e n [] = refl
front_take e n (c ∷ y) = elim (cases_Bool (nat_le (units e c) n)) [
  | inl h ↦
      let f : front e n (c ∷ y) ≡ c ∷ front e (n - units e c) y = cond-true _ _ _ h in
      ap (λ z. take (length z) (c ∷ y)) f ∙ ap (λ z. c ∷ z) (front_take e (n - units e c) y) ∙ sym f
  | inr h ↦
      let f : front e n (c ∷ y) ≡ [] = cond-false _ _ _ h in
      ap (λ z. take (length z) (c ∷ y)) f ∙ sym f
]

pub front_le : (e : Encoding) (n : ℕ) (y : Text) → length (front e n y) ≤ length y
front_le e n y = omega (arith, ap length (front_take e n y), length-take (length (front e n y)) y)

-- ---- lines

pub first_line_take : (j : ℕ) (t : Text) → first_line (take j t) ≡ take j (first_line t)
first_line_take zero t = refl
first_line_take (suc j) [] = refl
first_line_take (suc j) (c ∷ t) = elim (cases_Bool (c == 10 || c == 13)) [
  | inl h ↦
      cond-true (c == 10 || c == 13) [] (c ∷ first_line (take j t)) h ∙ ap (take (suc j)) (sym (cond-true (c == 10 || c == 13) [] (c ∷ first_line t) h))
  | inr h ↦
      cond-false (c == 10 || c == 13) [] (c ∷ first_line (take j t)) h ∙ ap (λ z. c ∷ z) (first_line_take j t) ∙ ap (take (suc j)) (sym (cond-false (c == 10 || c == 13) [] (c ∷ first_line t) h))
]

pub first_line_le : (t : Text) → length (first_line t) ≤ length t
first_line_le [] = omega arith
first_line_le (c ∷ t) = elim (cases_Bool (c == 10 || c == 13)) [
  | inl h ↦ omega (arith, ap length (cond-true (c == 10 || c == 13) [] (c ∷ first_line t) h))
  | inr h ↦ omega (arith, ap length (cond-false (c == 10 || c == 13) [] (c ∷ first_line t) h), first_line_le t)
]

-- the part of line n before character k
pub line_part : (n k : ℕ) (t : Text) → line_start n t ≤ k → first_line (drop (line_start n t) (take k t)) ≡ take (k - line_start n t) (line n t)
line_part n k t h =
    let s = line_start n t in
    let e : k ≡ s + (k - s) = omega arith in
    ap (λ z. first_line (drop s (take z t))) e ∙ ap first_line (drop-take s (k - s) t ∙ ap (take (k - s)) (line_start_drop n t)) ∙ first_line_take (k - s) (from_line n t)

pub index_le : (e : Encoding) (p : Position) (t : Text) → index e p t ≤ length t
index_le e p t = omega (arith, front_le e p.character (line p.line t), first_line_le (from_line p.line t), from_line_le p.line t)

-- ---- from characters to positions and back

-- character k is in line n, or at its end
record IsInLine (n k : ℕ) (t : Text) : Type 0 where
  start : line_start n t ≤ k
  end : k ≤ line_start n t + length (line n t)

in_line_ends : (n k c : ℕ) (t : Text) → ends_line c t ≡ true → IsInLine n k t → IsInLine (suc n) (suc k) (c ∷ t)
in_line_ends n k c t h i =
    let s = start_ends n c t h in
    let l : line (suc n) (c ∷ t) ≡ line n t = ap (λ z. first_line (from_line n z)) (cond-true _ _ _ h) in
    record { start = omega (arith, s, i.start); end = omega (arith, s, ap length l, i.end) }

in_line_goes : (n k c : ℕ) (t : Text) → ends_line c t ≡ false → IsInLine (suc n) k t → IsInLine (suc n) (suc k) (c ∷ t)
in_line_goes n k c t h i =
    let s = start_goes n c t h in
    let l : line (suc n) (c ∷ t) ≡ line (suc n) t = ap (λ z. first_line (from_line n z)) (cond-false _ _ _ h) in
    record { start = omega (arith, s, i.start); end = omega (arith, s, ap length l, i.end) }

in_line_here : (k c : ℕ) (t : Text) → (c == 10 || c == 13) ≡ false → IsInLine 0 k t → IsInLine 0 (suc k) (c ∷ t)
in_line_here k c t h i =
    let l : first_line (c ∷ t) ≡ c ∷ first_line t = cond-false (c == 10 || c == 13) [] (c ∷ first_line t) h in
    record { start = omega arith; end = omega (arith, ap length l, i.end) }

-- a CR LF in which no character is meant ends a line
no_return : (k c : ℕ) (t : Text) → (c == 13) ≡ true → begins_feed t ≡ true → lines_before k t ≡ 0 → (IsInLineEnd (suc k) (c ∷ t) → ⊥) → ⊥
no_return k c [] r f l outside = absurd (cc f)
no_return zero c (d ∷ t) r f l outside =
    outside ([], t, ap (λ z. z ∷ d ∷ t) (eqb-true c 13 r) ∙ ap (λ z. 13 ∷ z ∷ t) (eqb-true d 10 f), refl)
no_return (suc k) c (d ∷ t) r f l outside =
    let s : lines_before (suc k) (d ∷ t) ≡ suc (lines_before k t) = cond-true _ _ _ (or_left _ _ f) in
    omega (arith, s, l)

in_line_at : (n k c : ℕ) (t : Text) → ends_line c t ≡ false → lines_before k t ≡ n → (IsInLineEnd (suc k) (c ∷ t) → ⊥) → IsInLine n k t → IsInLine n (suc k) (c ∷ t)
in_line_at zero k c t h l outside i = elim (cases_Bool (c == 13)) [
  | inl r ↦ absurd (no_return k c t r (before_feed c t h r) l outside)
  | inr r ↦ in_line_here k c t (or_from _ _ (or_parts (c == 10) ((c == 13) && not (begins_feed t)) h).0 r) i
]
in_line_at (suc n) k c t h l outside i = in_line_goes n k c t h i

in_line : (k : ℕ) (t : Text) → k ≤ length t → (IsInLineEnd k t → ⊥) → IsInLine (lines_before k t) k t
in_line zero t h outside = record { start = omega arith; end = omega arith }
in_line (suc k) [] h outside = absurd (omega arith)
in_line (suc k) (c ∷ t) h outside =
    let next : IsInLineEnd k t → ⊥ = λ w. outside (c ∷ w.0, w.1, ap (λ z. c ∷ z) w.2, ap suc w.3) in
    let i : IsInLine (lines_before k t) k t = in_line k t (omega arith) next in
    elim (cases_Bool (ends_line c t)) [
      | inl e ↦ subst (λ (n : ℕ). IsInLine n (suc k) (c ∷ t)) (sym (cond-true _ _ _ e)) (in_line_ends (lines_before k t) k c t e i)
      | inr e ↦ subst (λ (n : ℕ). IsInLine n (suc k) (c ∷ t)) (sym (cond-false _ _ _ e)) (in_line_at (lines_before k t) k c t e refl outside i)
    ]

pub index_position : (e : Encoding) (k : ℕ) (t : Text) → k ≤ length t → (IsInLineEnd k t → ⊥) → index e (position e k t) t ≡ k
index_position e k t h outside =
    let n = lines_before k t in
    let s = line_start n t in
    let i : IsInLine n k t = in_line k t h outside in
    let f : front e (units_before e k t) (line n t) ≡ take (k - s) (line n t) = ap (λ z. front e (size e z) (line n t)) (line_part n k t i.start) ∙ front_size e (k - s) (line n t) in
    omega (arith, ap length f, length-take (k - s) (line n t), i.start, i.end)

pub byte_index : (k : ℕ) (t : Text) → k ≤ length t → index_of_byte (size Utf8 (take k t)) t ≡ k
byte_index k t h = ap length (front_size Utf8 k t) ∙ length-take-le k t h

pub offset_position : (e : Encoding) (k : ℕ) (t : Text) → k ≤ length t → (IsInLineEnd k t → ⊥) → offset e (position e (index_of_byte (size Utf8 (take k t)) t) t) t ≡ size Utf8 (take k t)
offset_position e k t h outside =
    ap (λ z. offset e (position e z t) t) (byte_index k t h) ∙ ap (λ z. size Utf8 (take z t)) (index_position e k t h outside)

-- ---- from positions to characters and back

lines_here : (i : ℕ) (t : Text) → i ≤ length (first_line t) → lines_before i t ≡ 0
lines_here zero t h = refl
lines_here (suc i) [] h = refl
lines_here (suc i) (c ∷ t) h = elim (cases_Bool (c == 10 || c == 13)) [
  | inl b ↦ absurd (omega (arith, h, ap length (cond-true (c == 10 || c == 13) [] (c ∷ first_line t) b)))
  | inr b ↦
      let p = or_parts (c == 10) (c == 13) b in
      let e : ends_line c t ≡ false = or_from _ _ p.0 (ap (λ z. z && not (begins_feed t)) p.1) in
      cond-false _ _ _ e ∙ lines_here i t (omega (arith, h, ap length (cond-false (c == 10 || c == 13) [] (c ∷ first_line t) b)))
]

lines_at : (n i : ℕ) (t : Text) → n ≤ lines_before (length t) t → i ≤ length (line n t) → lines_before (line_start n t + i) t ≡ n
lines_at zero i t h l =
    let s : line_start 0 t + i ≡ i = omega arith in
    ap (λ z. lines_before z t) s ∙ lines_here i t l
lines_at (suc n) i [] h l = absurd (omega arith)
lines_at (suc n) i (c ∷ t) h l = elim (cases_Bool (ends_line c t)) [
  | inl e ↦
      let s : line_start (suc n) (c ∷ t) + i ≡ suc (line_start n t + i) = omega (arith, start_ends n c t e) in
      let h' : suc n ≤ suc (lines_before (length t) t) = subst (λ (z : ℕ). suc n ≤ z) (cond-true _ _ _ e) h in
      let l' : i ≤ length (line n t) = subst (λ (z : Text). i ≤ length (first_line (from_line n z))) (cond-true _ _ _ e) l in
      ap (λ z. lines_before z (c ∷ t)) s ∙ cond-true _ _ _ e ∙ ap suc (lines_at n i t (omega (arith, h')) l')
  | inr e ↦
      let s : line_start (suc n) (c ∷ t) + i ≡ suc (line_start (suc n) t + i) = omega (arith, start_goes n c t e) in
      let h' : suc n ≤ lines_before (length t) t = subst (λ (z : ℕ). suc n ≤ z) (cond-false _ _ _ e) h in
      let l' : i ≤ length (line (suc n) t) = subst (λ (z : Text). i ≤ length (first_line (from_line n z))) (cond-false _ _ _ e) l in
      ap (λ z. lines_before z (c ∷ t)) s ∙ cond-false _ _ _ e ∙ lines_at (suc n) i t h' l'
]

pub position_index : (e : Encoding) (p : Position) (t : Text) → IsExact e p t → position e (index e p t) t ≡ p
position_index e p t x =
    let y = line p.line t in
    let s = line_start p.line t in
    let f = front e p.character y in
    let part : f ≡ take x.count y = ap (λ z. front e z y) x.between ∙ front_size e x.count y in
    let n : lines_before (s + length f) t ≡ p.line = lines_at p.line (length f) t x.in_text (front_le e p.character y) in
    let gap : (s + length f) - s ≡ length f = omega arith in
    let u : units_before e (s + length f) t ≡ p.character =
    ap (λ z. size e (first_line (drop (line_start z t) (take (s + length f) t)))) n ∙ ap (size e) (line_part p.line (s + length f) t (omega arith) ∙ ap (λ z. take z y) gap ∙ front_take e p.character y ∙ part)
    ∙ sym x.between in
    sym (same_position p (lines_before (s + length f) t) (units_before e (s + length f) t) (sym n) (sym u))

pub position_offset : (e : Encoding) (p : Position) (t : Text) → IsExact e p t → position e (index_of_byte (offset e p t) t) t ≡ p
position_offset e p t x = ap (λ z. position e z t) (byte_index (index e p t) t (index_le e p t)) ∙ position_index e p t x

-- ---- the positions of characters are exact

lines_le : (k : ℕ) (t : Text) → k ≤ length t → lines_before k t ≤ lines_before (length t) t
lines_le zero t h = omega arith
lines_le (suc k) [] h = absurd (omega arith)
lines_le (suc k) (c ∷ t) h =
    let i = lines_le k t (omega arith) in
    elim (cases_Bool (ends_line c t)) [
      | inl e ↦ omega (arith, i, cond-true (ends_line c t) (suc (lines_before k t)) (lines_before k t) e, cond-true (ends_line c t) (suc (lines_before (length t) t)) (lines_before (length t) t) e)
      | inr e ↦ omega (arith, i, cond-false (ends_line c t) (suc (lines_before k t)) (lines_before k t) e, cond-false (ends_line c t) (suc (lines_before (length t) t)) (lines_before (length t) t) e)
    ]

start_at : (n k c : ℕ) (t : Text) → ends_line c t ≡ false → line_start n t ≤ k → line_start n (c ∷ t) ≤ suc k
start_at zero k c t e h = omega arith
start_at (suc n) k c t e h = omega (arith, start_goes n c t e, h)

start_before : (k : ℕ) (t : Text) → line_start (lines_before k t) t ≤ k
start_before zero t = omega arith
start_before (suc k) [] = omega arith
start_before (suc k) (c ∷ t) =
    let i = start_before k t in
    elim (cases_Bool (ends_line c t)) [
      | inl e ↦ subst (λ (n : ℕ). line_start n (c ∷ t) ≤ suc k) (sym (cond-true _ _ _ e)) (omega (arith, start_ends (lines_before k t) c t e, i))
      | inr e ↦ subst (λ (n : ℕ). line_start n (c ∷ t) ≤ suc k) (sym (cond-false _ _ _ e)) (start_at (lines_before k t) k c t e i)
    ]

pub position_exact : (e : Encoding) (k : ℕ) (t : Text) → k ≤ length t → IsExact e (position e k t) t
position_exact e k t h = record {
  in_text = lines_le k t h;
  count = k - line_start (lines_before k t) t;
  between = ap (size e) (line_part (lines_before k t) k t (start_before k t));
}

-- no position inside a pair of surrogates is exact
inside_pair : (n : ℕ) → 1 ≡ size Utf16 (take n (0x1_F600 ∷ [])) → ⊥
inside_pair zero e = omega (arith, e)
inside_pair (suc n) e = omega (arith, e)

pub no_exact : IsExact Utf16 (record { line = 0; character = 1 }) (0x1_F600 ∷ []) → ⊥
no_exact x = inside_pair x.count x.between
