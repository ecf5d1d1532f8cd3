-- Strings put into a buffer one after another, as far as there is room.
use Rattle.std.proofs.Common.{arith, ◌≡◌, ℕ, ◌+◌, ◌-◌, ◌<◌, ◌≤◌, ◌++◌, ◌^◌, List, [], ◌∷◌, ap, ◌∙◌, sym, refl, length, length-append, length-drop, length-take, take, take_at, take_all, drop, drop_at, drop-drop, append-nil, inl, inr, le-leb, slice_set}
use Rattle.std.specs.List.{concat}
use Rattle.std.proofs.lemmas.Bool.Decides.{leb_tells, nat_tests}
use Rattle.std.proofs.lemmas.List.Folds.{concat-append}
use Rattle.std.proofs.Math.Seq.{take-nil}
use Rattle.kdl_text.specs.Spans.{raise}
use Rattle.c_calls.specs.Strings.{HasPut, fitting, over}

-- where all fit, all are written
fit_all : (room : ℕ) (ts : List (List ℕ)) → length (concat ts) ≤ room → fitting room ts ≡ concat ts
fit_all room [] k = refl
fit_all room (t ∷ ts) k =
    let e : length (t ++ concat ts) ≡ length t + length (concat ts) = length-append t (concat ts) in
    let h : length t ≤ room = omega (arith, k, e) in
    rw (le-leb (length t) room h) (ap (λ (z : List ℕ). t ++ z) (fit_all (room - length t) ts (omega (arith, k, e))))

one : (t : List ℕ) → concat (t ∷ []) ≡ t
one t = append-nil t

-- what does not fit is not written
fit_none : (room : ℕ) (ts : List (List ℕ)) (t : List ℕ) → room < length (concat ts) + length t → fitting room (ts ++ t ∷ []) ≡ fitting room ts
fit_none room [] t k = grind (arith, nat_tests)
fit_none room (x ∷ ts) t k =
    let e : length (x ++ concat ts) ≡ length x + length (concat ts) = length-append x (concat ts) in
    elim (leb_tells (length x) room) [
      | inl w ↦ rw w.0 (ap (λ (z : List ℕ). x ++ z) (fit_none (room - length x) ts t (omega (arith, k, e, w.1))))
      | inr w ↦ rw w.0 refl
    ]

pub fit_short : (room : ℕ) (ts : List (List ℕ)) → length (fitting room ts) ≤ room
fit_short room [] = omega arith
fit_short room (t ∷ ts) = elim (leb_tells (length t) room) [
  | inl w ↦ rw w.0 (omega (arith, w.1, fit_short (room - length t) ts, length-append t (fitting (room - length t) ts)))
  | inr w ↦ rw w.0 (omega arith)
]

-- a list that has room
pub over_short : {A : Type 0} (xs buffer : List A) → length xs ≤ length buffer → over xs buffer ≡ xs ++ drop (length xs) buffer
over_short xs buffer k = ap (λ z. z ++ drop (length xs) buffer) (take_all (length buffer) xs k)

pub over_length : {A : Type 0} (xs buffer : List A) → length (over xs buffer) ≡ length buffer
over_length xs buffer = omega (arith, length-append (take (length buffer) xs) (drop (length xs) buffer), length-take (length buffer) xs, length-drop (length xs) buffer)

-- a row more
pub over_more : {A : Type 0} (xs : List A) (x : A) (buffer : List A) → slice_set (over xs buffer) (length xs) x ≡ over (xs ++ x ∷ []) buffer
over_more [] x [] = refl
over_more [] x (y ∷ ys) = ap (λ s. x ∷ s ++ ys) (sym (take-nil (length ys)))
over_more (z ∷ xs) x [] = refl
over_more (z ∷ xs) x (y ∷ ys) = ap (λ s. z ∷ s) (over_more xs x ys)

pub over_none : {A : Type 0} (buffer : List A) → over [] buffer ≡ buffer
over_none [] = refl
over_none (y ∷ ys) = ap (λ s. s ++ y ∷ ys) (take-nil (length (y ∷ ys)))

past : (xs ys : List ℕ) (k : ℕ) → drop (length xs + k) (xs ++ ys) ≡ drop k ys
past xs ys k = sym (drop-drop k (length xs) (xs ++ ys)) ∙ ap (drop k) (drop_at xs ys (length xs) refl)

pub put_nothing : (strings : List ℕ) → HasPut strings [] strings 0
put_nothing strings = record { written = sym (over_none strings); counted = refl }

pub put_more : (before : List ℕ) (ts : List (List ℕ)) (t now now' : List ℕ) (u u' : ℕ)
    → HasPut before ts now u → length now < 2 ^ 64 - 1 → u' ≡ raise u (length t)
    → (u' ≤ length now → now' ≡ take u now ++ t ++ drop u' now) → (length now < u' → now' ≡ now)
    → HasPut before (ts ++ t ∷ []) now' u'
put_more before ts t now now' u u' h small counted written kept =
    let joined : concat (ts ++ t ∷ []) ≡ concat ts ++ t = concat-append ts (t ∷ []) ∙ ap (λ (z : List ℕ). concat ts ++ z) (one t) in
    let total : length (concat (ts ++ t ∷ [])) ≡ length (concat ts) + length t = ap length joined ∙ length-append (concat ts) t in
    let same : length now ≡ length before = ap length h.written ∙ over_length (fitting (length before) ts) before in
    let sum : u' ≡ raise 0 (length (concat (ts ++ t ∷ []))) = omega (arith, h.counted, total, counted) in
    let n : ℕ = length (concat ts) in
    elim (leb_tells u' (length now)) [
      | inl w ↦
          let at : u ≡ n = omega (arith, w.1, small, counted, h.counted) in
          let end : u' ≡ n + length t = omega (arith, w.1, small, counted, h.counted) in
          let room : n + length t ≤ length before = omega (arith, w.1, end, same) in
          let old : now ≡ concat ts ++ drop n before =
          h.written ∙ ap (λ z. over z before) (fit_all (length before) ts (omega (arith, room))) ∙ over_short (concat ts) before (omega (arith, room)) in
          let new : fitting (length before) (ts ++ t ∷ []) ≡ concat ts ++ t = fit_all (length before) (ts ++ t ∷ []) (omega (arith, total, room)) ∙ joined in
          let front : take u now ≡ concat ts = ap (take u) old ∙ take_at (concat ts) (drop n before) u (sym at) in
          let back : drop u' now ≡ drop (n + length t) before =
          ap (λ (k : ℕ). drop k now) end ∙ ap (drop (n + length t)) old ∙ past (concat ts) (drop n before) (length t) ∙ drop-drop (length t) n before in
          record {
            written = written w.1 ∙ ap (λ (z : List ℕ). z ++ t ++ drop u' now) front ∙ ap (λ (z : List ℕ). concat ts ++ t ++ z) back
                ∙ ap (λ (k : ℕ). concat ts ++ t ++ drop k before) (sym (length-append (concat ts) t))
                ∙ sym (over_short (concat ts ++ t) before (omega (arith, room, length-append (concat ts) t))) ∙ ap (λ z. over z before) (sym new);
            counted = sum;
          }
      | inr w ↦ record {
        written = kept w.1 ∙ h.written ∙ ap (λ z. over z before) (sym (fit_none (length before) ts t (omega (arith, w.1, same, counted, h.counted))));
        counted = sum;
      }
    ]
