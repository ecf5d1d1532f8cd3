-- One path more, after those that are one after another.
use Rattle.std.proofs.Common.{◌≡◌, ℕ, ◌+◌, ◌<◌, List, [], ◌∷◌, ◌++◌, ap, ◌∙◌, sym, append_assoc, append-nil, length, map, slice_index_or, take}
use Rattle.std.proofs.lemmas.List.{map-append, take_more}
use Rattle.kdl_c.specs.Queries.{flat}

flat_last : (ps : List (List ℕ)) (p : List ℕ) → flat (ps ++ p ∷ []) ≡ flat ps ++ length p ∷ p
flat_last [] p = ap (λ (z : List ℕ). length p ∷ z) (append-nil p)
flat_last (q ∷ ps) p = ap (λ (z : List ℕ). length q ∷ z) (ap (λ (z : List ℕ). q ++ z) (flat_last ps p) ∙ sym (append_assoc q (flat ps) (length p ∷ p)))

pub flat_more : {A : Type 0} (f : A → List ℕ) (xs : List A) (k : ℕ) (x : A) → k < length xs → x ≡ slice_index_or xs k x
    → flat (map f (take (k + 1) xs)) ≡ flat (map f (take k xs)) ++ length (f x) ∷ f x
flat_more f xs k x l e =
    ap (λ ys. flat (map f ys)) (take_more xs k x l) ∙ ap flat (map-append f (take k xs) (slice_index_or xs k x ∷ []))
    ∙ ap (λ y. flat (map f (take k xs) ++ f y ∷ [])) (sym e) ∙ flat_last (map f (take k xs)) (f x)
