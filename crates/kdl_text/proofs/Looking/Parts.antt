-- Parts of a text.
use Rattle.std.proofs.Common.{◌≡◌, [], ◌++◌, ap, sym, subst, ◌∙◌, append_assoc, append-nil}
use Rattle.kdl_text.specs.Chars.{Text}
use Rattle.kdl_text.specs.Internal.Here.{Here, IsPart}
use Rattle.kdl_text.specs.Internal.Reading.{Moves}

-- a text is a part of itself
pub part_whole : (t : Text) → IsPart t t
part_whole t = record { before = []; after = []; whole = sym (append-nil t) }

-- what is left of a part after its front is a part
pub part_past : (t s p r : Text) → IsPart t s → s ≡ p ++ r → IsPart t r
part_past t s p r i e = record {
  before = i.before ++ p;
  after = i.after;
  whole = i.whole ∙ ap (λ z. i.before ++ z) (ap (λ z. z ++ i.after) e ∙ append_assoc p r i.after) ∙ sym (append_assoc i.before p (r ++ i.after));
}

-- the front of a part is a part
pub part_front : (t s p r : Text) → IsPart t s → s ≡ p ++ r → IsPart t p
part_front t s p r i e = record {
  before = i.before;
  after = r ++ i.after;
  whole = i.whole ∙ ap (λ z. i.before ++ z) (ap (λ z. z ++ i.after) e ∙ append_assoc p r i.after);
}

-- a part of the same text
pub part_same : {t u s : Text} → IsPart t s → u ≡ t → IsPart u s
part_same {s = s} i e = subst (λ z. IsPart z s) (sym e) i

-- a part of the text of a cursor stays one
pub part_moved : {a b : Here} {s : Text} → IsPart a.text s → Moves a b → IsPart b.text s
part_moved i m = part_same i m.same
