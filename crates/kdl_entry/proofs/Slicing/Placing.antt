-- The piece between a text and an end of it is a place.
use Rattle.std.proofs.Common.{◌≡◌, ◌++◌, ap, ◌∙◌}
use Rattle.kdl_text.specs.Chars.{Text}
use Rattle.kdl_text.proofs.Looking.Ends.{End}
use Rattle.kdl_entry.specs.Places.{Is, between}
use Rattle.kdl_entry.proofs.Slicing.Between.{is_between}

pub cut : {t s : Text} → End t s → t ≡ between t s ++ s
cut {t = t} {s = s} e = e.text ∙ ap (λ (q : Text). q ++ s) (is_between t s e.piece e.text)

-- the piece before r is of the class
pub place : {R : Text → Text → Type 0} {s r : Text} → R s r → End s r → Is R (between s r) s r
place d e = record { is = d; text = cut e }
