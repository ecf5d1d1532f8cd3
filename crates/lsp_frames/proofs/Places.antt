-- The first place of a part.
use Rattle.std.proofs.Common.{◌≡◌, ℕ, zero, suc, ◌+◌, ◌-◌, ◌<◌, ◌≤◌, ◌⊎◌, inl, inr, Bool, true, false, nat_eq, Option, None, Some, List, [], ◌∷◌, ◌++◌, length, take, drop, refl, sym, ap, ◌∙◌, subst, arith}
use Rattle.std.specs.List.{starts_with}
use Rattle.std.specs.Option.{option_map}
use Rattle.std.proofs.lemmas.Bool.{cases_Bool, cond-true, cond-false}
use Rattle.std.proofs.lemmas.Bool.Decides.{Decides-eqb}
use Rattle.std.proofs.lemmas.List.{length-append, take-append-le, take_rest}
use Rattle.std.proofs.lemmas.Slice.Eq.{starts_is}
use Rattle.lsp_frames.specs.Heads.{place_of}

-- what a test of the bytes from n on has told
pub tested : (bs part : List ℕ) (n : ℕ) (r b : Bool) → r ≡ starts_with nat_eq (take (length bs - n) (drop n bs)) part → r ≡ b → starts_with nat_eq (drop n bs) part ≡ b
tested bs part n r b e h = ap (λ xs. starts_with nat_eq xs part) (sym (take_rest bs n)) ∙ sym e ∙ h

pub place_found : (part bs : List ℕ) (n : ℕ) → n < length bs → ((k : ℕ) → k < n → starts_with nat_eq (drop k bs) part ≡ false) → starts_with nat_eq (drop n bs) part ≡ true → place_of part bs ≡ Some n
unfolding place_of
place_found part [] n l before here = absurd (omega arith)
place_found part (b ∷ bs) zero l before here = cond-true _ _ _ here
place_found part (b ∷ bs) (suc n) l before here =
    cond-false _ _ _ (before 0 (omega arith)) ∙ ap (option_map suc) (place_found part bs n (omega arith) (λ k h. before (suc k) (omega arith)) here)

pub place_missing : (part bs : List ℕ) → ((k : ℕ) → k < length bs → starts_with nat_eq (drop k bs) part ≡ false) → place_of part bs ≡ None
unfolding place_of
place_missing part [] before = refl
place_missing part (b ∷ bs) before =
    cond-false _ _ _ (before 0 (omega arith)) ∙ ap (option_map suc) (place_missing part bs (λ k h. before (suc k) (omega arith)))

-- a place after the first byte
pub record IsLater (part bs : List ℕ) (n : ℕ) : Type 0 where
  pub place : ℕ
  pub later : n ≡ suc place
  pub found : place_of part bs ≡ Some place

option_later : (o : Option ℕ) (n : ℕ) → option_map suc o ≡ Some n → (m : ℕ) × (n ≡ suc m) × (o ≡ Some m)
option_later None n e = absurd cc
option_later (Some m) n e = (m, cc, refl)

-- the first place is the first byte, or the first one after it
pub place_cases : (part bs : List ℕ) (b n : ℕ) → place_of part (b ∷ bs) ≡ Some n → ((starts_with nat_eq (b ∷ bs) part ≡ true) × (n ≡ 0)) ⊎ ((starts_with nat_eq (b ∷ bs) part ≡ false) × IsLater part bs n)
unfolding place_of
place_cases part bs b n e = elim (cases_Bool (starts_with nat_eq (b ∷ bs) part)) [
  | inl h ↦ let z : Some n ≡ Some 0 = sym e ∙ cond-true _ _ _ h in inl (h, cc)
  | inr h ↦
      let m = option_later (place_of part bs) n (sym (cond-false _ _ _ h) ∙ e) in
      inr (h, record { place = m.0; later = m.1; found = m.2 })
]

pub starts_fits : (bs part : List ℕ) → starts_with nat_eq bs part ≡ true → length part ≤ length bs
starts_fits bs part h =
    let e = (starts_is Decides-eqb bs part true (sym h)).0 refl in
    omega (arith, ap length e ∙ length-append part (drop (length part) bs))

pub place_fits : (part bs : List ℕ) (n : ℕ) → place_of part bs ≡ Some n → n + length part ≤ length bs
unfolding place_of
place_fits part [] n e = absurd cc
place_fits part (b ∷ bs) n e = elim (place_cases part bs b n e) [
  | inl h ↦ omega (arith, starts_fits (b ∷ bs) part h.0)
  | inr h ↦ omega (arith, h.1.later, place_fits part bs h.1.place h.1.found)
]

-- a part is at its place also where more bytes follow
pub place_append : (part bs more : List ℕ) (n : ℕ) → place_of part bs ≡ Some n → place_of part (bs ++ more) ≡ Some n
unfolding place_of
place_append part [] more n e = absurd cc
place_append part (b ∷ bs) more n e = elim (place_cases part bs b n e) [
  | inl h ↦
      let same = take-append-le (length part) (b ∷ bs) more (starts_fits (b ∷ bs) part h.0) in
      let here : starts_with nat_eq (b ∷ (bs ++ more)) part ≡ true = rw same h.0 in
      cond-true _ _ _ here ∙ ap Some (sym h.1)
  | inr h ↦
      let same = take-append-le (length part) (b ∷ bs) more (omega (arith, place_fits part bs h.1.place h.1.found)) in
      let here : starts_with nat_eq (b ∷ (bs ++ more)) part ≡ false = rw same h.0 in
      cond-false _ _ _ here ∙ ap (option_map suc) (place_append part bs more h.1.place h.1.found) ∙ ap Some (sym h.1.later)
]

pub place_here : (part bs : List ℕ) (n : ℕ) → place_of part bs ≡ Some n → starts_with nat_eq (drop n bs) part ≡ true
unfolding place_of
place_here part [] n e = absurd cc
place_here part (b ∷ bs) n e = elim (place_cases part bs b n e) [
  | inl h ↦ subst (λ (k : ℕ). starts_with nat_eq (drop k (b ∷ bs)) part ≡ true) (sym h.1) h.0
  | inr h ↦ subst (λ (k : ℕ). starts_with nat_eq (drop k (b ∷ bs)) part ≡ true) (sym h.1.later) (place_here part bs h.1.place h.1.found)
]

pub place_before : (part bs : List ℕ) (n k : ℕ) → place_of part bs ≡ Some n → k < n → starts_with nat_eq (drop k bs) part ≡ false
unfolding place_of
place_before part [] n k e l = absurd cc
place_before part (b ∷ bs) n zero e l = elim (place_cases part bs b n e) [ inl h ↦ absurd (omega (arith, h.1)) | inr h ↦ h.0 ]
place_before part (b ∷ bs) n (suc k) e l = elim (place_cases part bs b n e) [
  | inl h ↦ absurd (omega (arith, h.1))
  | inr h ↦ place_before part bs h.1.place k h.1.found (omega (arith, h.1.later))
]

pub some_none : (n : ℕ) → Some n ≡ None → ⊥
some_none n e = cc

pub option_none : (o : Option ℕ) → option_map suc o ≡ None → o ≡ None
option_none None e = refl
option_none (Some n) e = absurd cc

pub place_nowhere : (part bs : List ℕ) (k : ℕ) → place_of part bs ≡ None → k < length bs → starts_with nat_eq (drop k bs) part ≡ false
unfolding place_of
place_nowhere part [] k e l = absurd (omega arith)
place_nowhere part (b ∷ bs) k e l = elim (cases_Bool (starts_with nat_eq (b ∷ bs) part)) [
  | inl h ↦ absurd (some_none 0 (sym (cond-true _ _ _ h) ∙ e))
  | inr h ↦ elim k as (λ (i : ℕ). i < suc (length bs) → starts_with nat_eq (drop i (b ∷ bs)) part ≡ false) [
    | zero ↦ λ _. h
    | suc i ↦ λ m. place_nowhere part bs i (option_none (place_of part bs) (sym (cond-false _ _ _ h) ∙ e)) (omega arith)
  ] l
]
