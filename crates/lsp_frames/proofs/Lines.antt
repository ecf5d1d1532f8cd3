-- The lines of a head.
use Rattle.std.proofs.Common.{◌≡◌, ℕ, suc, ◌+◌, true, false, Option, None, Some, is_some, cond, List, [], ◌∷◌, take, drop, refl, sym, ap, ◌∙◌, inl, inr, subst, nat_eq, arith}
use Rattle.std.specs.List.{onto_first, starts_with}
use Rattle.std.proofs.lemmas.Bool.{cases_Bool, cond-true, cond-false}
use Rattle.lsp_frames.specs.Heads.{first_length, length_in, length_of_line, line_end, lines, place_of}
use Rattle.lsp_frames.proofs.Places.{option_none, place_cases, place_fits, some_none}

-- the first line ends at the first end of a line
pub lines_found : (bs : List ℕ) (n : ℕ) → place_of line_end bs ≡ Some n → lines bs ≡ take n bs ∷ lines (drop (n + 2) bs)
unfolding lines
lines_found [] n e = absurd (omega (arith, place_fits line_end [] n e))
lines_found (b ∷ []) n e = absurd (omega (arith, place_fits line_end (b ∷ []) n e))
lines_found (b ∷ c ∷ bs) n e = elim (place_cases line_end (c ∷ bs) b n e) [
  | inl h ↦ subst (λ (k : ℕ). lines (b ∷ c ∷ bs) ≡ take k (b ∷ c ∷ bs) ∷ lines (drop (k + 2) (b ∷ c ∷ bs))) (sym h.1) (cond-true _ _ _ h.0)
  | inr h ↦
      let m = h.1.place in
      let more : suc m + 2 ≡ suc (m + 2) = omega arith in
      let rest : drop (suc m + 2) (b ∷ c ∷ bs) ≡ drop (m + 2) (c ∷ bs) = ap (λ k. drop k (b ∷ c ∷ bs)) more in
      let goes : lines (b ∷ c ∷ bs) ≡ take (suc m) (b ∷ c ∷ bs) ∷ lines (drop (suc m + 2) (b ∷ c ∷ bs)) =
      cond-false _ _ _ h.0 ∙ ap (onto_first b) (lines_found (c ∷ bs) m h.1.found) ∙ ap (λ t. (b ∷ take m (c ∷ bs)) ∷ lines t) (sym rest) in
      subst (λ (k : ℕ). lines (b ∷ c ∷ bs) ≡ take k (b ∷ c ∷ bs) ∷ lines (drop (k + 2) (b ∷ c ∷ bs))) (sym h.1.later) goes
]

-- bytes with no end of a line are one line
pub lines_missing : (bs : List ℕ) → place_of line_end bs ≡ None → lines bs ≡ bs ∷ []
unfolding lines place_of
lines_missing [] e = refl
lines_missing (b ∷ []) e = refl
lines_missing (b ∷ c ∷ bs) e = elim (cases_Bool (starts_with nat_eq (b ∷ c ∷ bs) line_end)) [
  | inl h ↦ absurd (some_none 0 (sym (cond-true _ _ _ h) ∙ e))
  | inr h ↦ cond-false _ _ _ h ∙ ap (onto_first b) (lines_missing (c ∷ bs) (option_none (place_of line_end (c ∷ bs)) (sym (cond-false _ _ _ h) ∙ e)))
]

-- what the lines give, where the first one gives a length
pub first_gives : (head bs : List ℕ) (n : ℕ) → first_length (lines bs) ≡ first_length (lines head) → place_of line_end bs ≡ Some n → is_some (length_of_line (take n bs)) ≡ true → length_of_line (take n bs) ≡ length_in head
unfolding length_in
first_gives head bs n same e h = sym (cond-true _ _ _ h) ∙ sym (ap first_length (lines_found bs n e)) ∙ same

-- and where it gives none
pub first_misses : (bs : List ℕ) (n : ℕ) → place_of line_end bs ≡ Some n → is_some (length_of_line (take n bs)) ≡ false → first_length (lines (drop (n + 2) bs)) ≡ first_length (lines bs)
first_misses bs n e h = sym (ap first_length (lines_found bs n e) ∙ cond-false _ _ _ h)

either : (o : Option ℕ) → cond (is_some o) o None ≡ o
either None = refl
either (Some n) = refl

pub last_gives : (head bs : List ℕ) → first_length (lines bs) ≡ first_length (lines head) → place_of line_end bs ≡ None → length_of_line bs ≡ length_in head
unfolding length_in
last_gives head bs same e = sym (either (length_of_line bs)) ∙ sym (ap first_length (lines_missing bs e)) ∙ same
