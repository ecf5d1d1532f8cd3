-- A piece as a function of what follows it.
use Rattle.std.proofs.Common.{◌≡◌, ◌≢◌, ℕ, Bool, true, false, ◌==◌, [], ◌∷◌, ◌++◌, take, None, refl, sym, ap, ◌∙◌, append_assoc}
use Rattle.std.proofs.lemmas.List.{append_cancel_right}
use Rattle.kdl_text.specs.Chars.{Text, begins, starts, is_identifier_char}
use Rattle.kdl_text.specs.Internal.Here.{first}

pub record Put (s r : Text) : Type 0 where
  pub put : Text → Text
  pub piece : Text
  pub text : (u : Text) → put u ≡ piece ++ u
  pub here : s ≡ put r

abbrev pub stands : {r : Text} → Put r r
stands = record { put = λ u. u; piece = []; text = λ u. refl; here = refl }

abbrev pub also : (c : ℕ) {s r : Text} → Put s r → Put (c ∷ s) r
also c p = record { put = λ u. c ∷ p.put u; piece = c ∷ p.piece; text = λ u. ap (λ (z : Text). c ∷ z) (p.text u); here = ap (λ (z : Text). c ∷ z) p.here }

abbrev pub joined : {s t r : Text} → Put s t → Put t r → Put s r
joined p q = record {
  put = λ u. p.put (q.put u);
  piece = p.piece ++ q.piece;
  text = λ u. p.text (q.put u) ∙ ap (λ (z : Text). p.piece ++ z) (q.text u) ∙ sym (append_assoc p.piece q.piece u);
  here = p.here ∙ ap p.put q.here;
}

abbrev pub before : (p : Text) {s r : Text} → s ≡ p ++ r → Put s r
before p e = record { put = λ u. p ++ u; piece = p; text = λ u. refl; here = e }

pub first_piece : (p s t : Text) → first s ≡ first t → first (p ++ s) ≡ first (p ++ t)
first_piece [] s t e = e
first_piece (c ∷ p) s t e = refl

-- what follows a front that is not empty does not change its first character
pub front_first : (f u r : Text) → f ≢ [] → first (f ++ u) ≡ first (f ++ r)
front_first [] u r some = absurd (some refl)
front_first (c ∷ f) u r some = refl

pub more_first : (r u : Text) → r ≢ [] → first (r ++ u) ≡ first r
more_first [] u some = absurd (some refl)
more_first (c ∷ r) u some = refl

-- the first two characters of a text, and the rest
pub two_parts : (r : Text) → (q : Text) × (r ≡ take 2 r ++ q)
two_parts [] = ([], refl)
two_parts (c ∷ []) = ([], refl)
two_parts (c ∷ d ∷ r) = (r, refl)

pub two_some : (r : Text) → r ≢ [] → take 2 r ≢ []
two_some [] h e = h e
two_some (c ∷ []) h e = cc
two_some (c ∷ d ∷ r) h e = cc

-- what begins like the rest makes the text begin like the text
pub same : {s r : Text} (p : Put s r) (u : Text) → first u ≡ first r → first (p.put u) ≡ first s
same {s = s} {r = r} p u e = ap first (p.text u) ∙ first_piece p.piece u r e ∙ ap first (sym (p.text r)) ∙ ap first (sym p.here)

pub same_piece : (p : Text) {s r : Text} (m : Put s r) → s ≡ p ++ r → (u : Text) → m.put u ≡ p ++ u
same_piece p {r = r} m e u = m.text u ∙ ap (λ (z : Text). z ++ u) (append_cancel_right m.piece p r (sym (m.text r) ∙ sym m.here ∙ e))

pub starts_first : (p : ℕ → Bool) (s t : Text) → first s ≡ first t → starts p s ≡ starts p t
starts_first p [] [] e = refl
starts_first p [] (d ∷ t) e = cc
starts_first p (d ∷ s) [] e = cc
starts_first p (d ∷ s) (d' ∷ t) e = let f : d ≡ d' = cc in ap p f

pub begins_first : (c : ℕ) (s t : Text) → first s ≡ first t → begins c s ≡ begins c t
begins_first c [] [] e = refl
begins_first c [] (d ∷ t) e = cc
begins_first c (d ∷ s) [] e = cc
begins_first c (d ∷ s) (d' ∷ t) e = let f : d ≡ d' = cc in ap (λ x. x == c) f

pub nothing : (s : Text) → first s ≡ None → s ≡ []
nothing [] e = refl
nothing (d ∷ s) e = cc

-- both begin, or both do not, with an identifier character of a class
pub record Alike (u r : Text) : Type 0 where
  pub same : (p : ℕ → Bool) → ((c : ℕ) → p c ≡ true → is_identifier_char c ≡ true) → starts p u ≡ starts p r

no_class : (p : ℕ → Bool) → ((c : ℕ) → p c ≡ true → is_identifier_char c ≡ true) → (s : Text) → starts is_identifier_char s ≡ false → starts p s ≡ false
no_class p sub [] e = refl
no_class p sub (c ∷ s) e = go (p c) refl
  where
    go : (b : Bool) → p c ≡ b → p c ≡ false
    go true x = let y = sub c x in absurd cc
    go false x = x

pub both_end : (u r : Text) → starts is_identifier_char u ≡ false → starts is_identifier_char r ≡ false → Alike u r
both_end u r e f = record { same = λ p sub. no_class p sub u e ∙ sym (no_class p sub r f) }

alike_piece : (p u r : Text) → Alike u r → (q : ℕ → Bool) → ((c : ℕ) → q c ≡ true → is_identifier_char c ≡ true) → starts q (p ++ u) ≡ starts q (p ++ r)
alike_piece [] u r a q sub = a.same q sub
alike_piece (c ∷ p) u r a q sub = refl

pub alike_put : {s r : Text} (p : Put s r) (u : Text) → Alike u r → Alike (p.put u) s
alike_put {s = s} {r = r} p u a = record { same = λ q sub. ap (starts q) (p.text u) ∙ alike_piece p.piece u r a q sub ∙ ap (starts q) (sym (p.text r)) ∙ ap (starts q) (sym p.here) }

-- it comes before each rest that begins with the same character, or is none
pub record Move (R : Text → Text → Type 0) (s r : Text) : Type 0 where
  pub at : Put s r
  pub there : (u : Text) → first u ≡ first r → R (at.put u) u

-- before each rest that is alike
pub record MoveAlike (R : Text → Text → Type 0) (s r : Text) : Type 0 where
  pub at : Put s r
  pub there : (u : Text) → Alike u r → R (at.put u) u

-- before each rest that begins with no identifier character, and is not empty
pub record MovePiece (R : Text → Text → Type 0) (s r : Text) : Type 0 where
  pub at : Put s r
  pub full : (u : Text) → first (at.put u) ≡ first s
  pub there : (u : Text) → starts is_identifier_char u ≡ false → R (at.put u) u
