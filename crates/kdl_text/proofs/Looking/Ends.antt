-- What follows a piece is an end of the text.
use Rattle.std.proofs.Common.{◌≡◌, ℕ, [], ◌∷◌, ◌++◌, refl, sym, ap, ◌∙◌, append_assoc}
use Rattle.kdl_text.specs.Chars.{Text, Star, none, more, Newline, crlf, one}

-- s is an end of t
pub record End (t s : Text) : Type 0 where
  pub piece : Text
  pub text : t ≡ piece ++ s

pub here : {t : Text} → End t t
here = record { piece = []; text = refl }

pub also : (c : ℕ) {t s : Text} → End t s → End (c ∷ t) s
also c e = record { piece = c ∷ e.piece; text = ap (λ (u : Text). c ∷ u) e.text }

pub then : {t s r : Text} → End t s → End s r → End t r
then e f = record { piece = e.piece ++ f.piece; text = e.text ∙ ap (λ (u : Text). e.piece ++ u) f.text ∙ sym (append_assoc e.piece f.piece _) }

pub past : {c : ℕ} {t s : Text} → End t (c ∷ s) → End t s
past {c = c} e = then e (also c here)

pub end_star : {R : Text → Text → Type 0} {s r : Text} → ((s r : Text) → R s r → End s r) → Star R s r → End s r
end_star f none = here
end_star f (more n m) = then (f _ _ n) (end_star f m)

pub end_newline : {s r : Text} → Newline s r → End s r
end_newline crlf = also 13 (also 10 here)
end_newline (one {c = c} x y) = also c here
