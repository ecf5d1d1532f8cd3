-- Newlines: a text begins with one at most.
use Rattle.std.proofs.Common.{◌≡◌, ℕ, ◌<◌, [], ◌∷◌, Bool, true, false, ◌&&◌, ◌==◌, length, refl, ap, sym, ◌∙◌, subst, arith}
use Rattle.std.proofs.lemmas.Bool.{and_parts, and_left, ne_eqb, eqb-true}
use Rattle.std.specs.Prelude.{Some}
use Rattle.kdl_text.specs.Chars.{Text, is_newline_char, begins, Newline, crlf, one}
use Rattle.kdl_text.specs.Internal.Here.{Here, Took, Ate, looked, stepped, first}
use Rattle.kdl_text.specs.Internal.Reading.{Moves}
use Rattle.kdl_text.proofs.Looking.MovesJoin.{moves_then, moves_stayed, moves_one, stayed_looked, took_from}

pub newline_det : {s r t : Text} → Newline s r → Newline s t → r ≡ t
newline_det crlf crlf = refl
newline_det crlf (one x y) = cc
newline_det (one x y) crlf = cc
newline_det (one x y) (one z w) = refl

begins_is : (c : ℕ) (s : Text) → begins c s ≡ true → (t : Text) × (s ≡ c ∷ t)
begins_is c [] h = cc
begins_is c (d ∷ s) h = (s, ap (λ x. x ∷ s) (eqb-true d c h))

-- a newline begins with each of its characters
pub newline_there : (c : ℕ) (s : Text) → is_newline_char c ≡ true → (t : Text) × Newline (c ∷ s) t
newline_there c s x = go ((c == 13) && begins 10 s) refl
  where
    go : (b : Bool) → ((c == 13) && begins 10 s) ≡ b → (t : Text) × Newline (c ∷ s) t
    go true e = let k = and_parts _ _ e in let u = begins_is 10 s k.1 in (u.0, subst (λ z. Newline z u.0) (sym (ap (λ z. z ∷ s) (eqb-true c 13 k.0) ∙ ap (λ z. 13 ∷ z) u.1)) crlf)
    go false e = (s, one x e)

cr_is : is_newline_char 13 ≡ true
unfolding is_newline_char
cr_is = refl

-- a newline that begins with a carriage return, after which a line feed is gone past, or with another character
pub end_lf : (r : Bool) (c : ℕ) (a b : Here) → c ≡ 13 → Ate 10 r a b → Newline (c ∷ a.rest) b.rest
end_lf true c a b e t = rw (e, t.0) crlf
end_lf false c a b e (n, l) = rw (e, (stayed_looked a b l).rest) (one cr_is n)

pub end_one : (c : ℕ) (s : Text) → is_newline_char c ≡ true → (c ≡ 13 → ⊥) → Newline (c ∷ s) s
end_one c s h ne = one h (and_left (c == 13) _ (ne_eqb c 13 ne))

-- what begins with no newline character begins with no newline
pub no_newline : {c : ℕ} {s t : Text} → is_newline_char c ≡ false → Newline (c ∷ s) t → ⊥
no_newline x crlf = let y = cr_is in cc
no_newline x (one y z) = cc

pub ate_cr : (r : Bool) (a d e : Here) → Took (Some 13) a d → Ate 10 r d e → Newline a.rest e.rest × Moves a e
ate_cr true a d e t u = (rw t.0 (rw u.0 crlf), moves_then (moves_one t) (moves_one u))
ate_cr false a d e t (n, u) =
    let s = stayed_looked d e u in
    (subst (Newline a.rest) (sym s.rest) (rw t.0 (one cr_is n)), moves_then (moves_one t) (moves_stayed s))

pub reads_cr : (c : ℕ) (r : Bool) (a b d e : Here) → Some c ≡ first a.rest → c ≡ 13 → b ≡ looked a → d ≡ stepped b → Ate 10 r d e → Newline a.rest e.rest × Moves a e
reads_cr c r a b d e h is x y u = ate_cr r a d e (took_from 13 a b d (ap Some (sym is) ∙ h) x y) u

pub reads_one : (c : ℕ) (a b e : Here) → Some c ≡ first a.rest → (c ≡ 13 → ⊥) → true ≡ is_newline_char c → b ≡ looked a → e ≡ stepped b → Newline a.rest e.rest × Moves a e
reads_one c a b e h no13 x y z = let t = took_from c a b e h y z in (rw t.0 (one (sym x) (and_left (c == 13) _ (ne_eqb c 13 no13))), moves_one t)

pub newline_shorter : {t r : Text} → Newline t r → length r < length t
newline_shorter crlf = omega arith
newline_shorter (one h k) = omega arith
