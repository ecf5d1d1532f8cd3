-- Block comments within one another: what a count of the open ones says.
use Rattle.std.proofs.Common.{◌++◌, ◌==◌, true, ◌≡◌, ℕ, zero, suc, ◌+◌, ◌-◌, ◌<◌, ◌↔◌, false, [], ◌∷◌, refl, add-one, sub-one, arith}
use Rattle.std.proofs.lemmas.Bool.{and_parts, or_parts, not-true}
use Rattle.std.specs.List.{list_all}
use Rattle.kdl_text.specs.Chars.{Text, begins_two, is_comment_char}
use Rattle.kdl_text.specs.Trivia.{Parts}
use Rattle.kdl_text.specs.Trivia.Parts.{close, nested, other}

-- the ends of d open comments
pub data Ends : ℕ → Text → Text → Type 0 where
  none : {s : Text} → Ends zero s s
  more : {d : ℕ} {s t r : Text} → Parts s t → Ends d t r → Ends (suc d) s r

-- two texts leave the same rests
abbrev pub Same : (Text → Type 0) → (Text → Type 0) → Type 0
Same P Q = (r : Text) → P r ↔ Q r

-- what each turn of the loop does to the open comments
pub opens : {d : ℕ} {s r : Text} → Ends (suc d) (47 ∷ 42 ∷ s) r → Ends (suc (suc d)) s r
opens (more (nested p q) o) = more p (more q o)
opens (more (other x y p) o) = cc

pub opened : {d : ℕ} {s r : Text} → Ends (suc (suc d)) s r → Ends (suc d) (47 ∷ 42 ∷ s) r
opened (more p (more q o)) = more (nested p q) o

pub closes : {d : ℕ} {s r : Text} → Ends (suc d) (42 ∷ 47 ∷ s) r → Ends d s r
closes (more close o) = o
closes (more (other x y p) o) = cc

pub passes : {d c : ℕ} {s r : Text} → begins_two 47 42 (c ∷ s) ≡ false → begins_two 42 47 (c ∷ s) ≡ false → Ends (suc d) (c ∷ s) r → Ends (suc d) s r
passes a b (more close o) = cc
passes a b (more (nested p q) o) = cc
passes a b (more (other x y p) o) = more p o

pub passed : {d c : ℕ} {s r : Text} → begins_two 47 42 (c ∷ s) ≡ false → begins_two 42 47 (c ∷ s) ≡ false → Ends (suc d) s r → Ends (suc d) (c ∷ s) r
passed a b (more p o) = more (other a b p) o

pub ended : {d : ℕ} {r : Text} → Ends (suc d) [] r → ⊥
ended (more p o) = elim p [ ]

-- the same over a loop's numbers
module _ (P : Text → Type 0) (a b : Text) where
  pub same_opens : (n : ℕ) → 0 < n → a ≡ 47 ∷ 42 ∷ b → Same P (Ends n a) → Same P (Ends (n + 1) b)
  same_opens zero h e s = absurd (omega arith)
  same_opens (suc d) h e s = λ r. rw add-one (λ p. opens (rw e at ((s r).0 p)), λ o. (s r).1 (rw e (opened o)))

  pub same_closes : (n : ℕ) → 0 < n → a ≡ 42 ∷ 47 ∷ b → Same P (Ends n a) → Same P (Ends (n - 1) b)
  same_closes zero h e s = absurd (omega arith)
  same_closes (suc d) h e s = λ r. rw sub-one (λ p. closes (rw e at ((s r).0 p)), λ o. (s r).1 (rw e (more close o)))

  pub same_passes : (n c : ℕ) → 0 < n → a ≡ c ∷ b → begins_two 47 42 (c ∷ b) ≡ false → begins_two 42 47 (c ∷ b) ≡ false → Same P (Ends n a) → Same P (Ends n b)
  same_passes zero c h e x y s = absurd (omega arith)
  same_passes (suc d) c h e x y s = λ r. (λ p. passes x y (rw e at ((s r).0 p)), λ o. (s r).1 (rw e (passed x y o)))

  pub same_ends : (n : ℕ) → 0 < n → a ≡ [] → Same P (Ends n a) → (r : Text) → P r → ⊥
  same_ends zero h e s r p = absurd (omega arith)
  same_ends (suc d) h e s r p = ended (rw e at ((s r).0 p))

one_end : {s r : Text} → Ends (suc zero) s r → Parts s r
one_end (more p none) = p

pub same_starts : (s : Text) → Same (Parts s) (Ends 1 s)
same_starts s r = (λ p. more p none, one_end)

pub none_end : {s r : Text} → Ends zero s r → s ≡ r
none_end none = refl

-- the same over characters at which no comment begins or ends
pub same_run : (P : Text → Type 0) (run a b : Text) (n : ℕ) → 0 < n → list_all is_comment_char run ≡ true → a ≡ run ++ b → Same P (Ends n a) → Same P (Ends n b)
same_run P [] a b n h all e s = λ r. (λ p. rw e at ((s r).0 p), λ o. (s r).1 (rw e o))
same_run P (c ∷ run) a b n h all e s =
    let (here, others) = and_parts (is_comment_char c) (list_all is_comment_char run) all in
    let (x42, x47) = or_parts (c == 42) (c == 47) (not-true _ here) in
    same_run P run (run ++ b) b n h others refl (same_passes P a (run ++ b) n c h e (rw x47 refl) (rw x42 refl) s)
