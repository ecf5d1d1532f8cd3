-- How a reader of a value goes on: what has been read of it, and what is to come.
use Rattle.std.proofs.Common.{◌≡◌, List, [], ◌++◌, refl, ap, sym, ◌∙◌, append_assoc, append-nil, subst}
use Rattle.kdl_text.specs.Chars.{Text}
use Rattle.kdl_text.specs.Internal.Reading.{Goes}

pub goes_start : {A : Type 0} (X : Text → Text → List A → Type 0) (s : Text) → Goes X s [] s
goes_start X s = record { on = λ r v x. x; back = λ r w x. (w, refl, x) }

pub goes_then : {A : Type 0} {X : Text → Text → List A → Type 0} {s : Text} {out : List A} {t : Text} {x : List A} {u : Text} → Goes X s out t → Goes X t x u → Goes X s (out ++ x) u
goes_then {X = X} {s = s} {out = out} {t = t} {x = x} {u = u} g h = record {
  on = λ r v y. subst (X s r) (sym (append_assoc out x v)) (g.on r (x ++ v) (h.on r v y));
  back = λ r w y.
      let (v, e, more) = g.back r w y in
      let (v', e', rest) = h.back r v more in
      (v', e ∙ ap (λ z. out ++ z) e' ∙ sym (append_assoc out x v'), rest);
}

-- at its end
pub goes_end : {A : Type 0} {X : Text → Text → List A → Type 0} {s : Text} {out : List A} {t e : Text} → Goes X s out t → X t e [] → ((r : Text) (v : List A) → X t r v → (r ≡ e) × (v ≡ []))
    → X s e out × ((r : Text) (w : List A) → X s r w → (r ≡ e) × (w ≡ out))
goes_end {X = X} {s = s} {out = out} {e = e} g x only = (
  subst (X s e) (append-nil out) (g.on e [] x),
  λ r w y.
      let (v, is, more) = g.back r w y in
      let (ends, none) = only r v more in
      (ends, is ∙ ap (λ z. out ++ z) none ∙ append-nil out),
)

-- where it does not go on
pub goes_none : {A : Type 0} {X : Text → Text → List A → Type 0} {s : Text} {out : List A} {t : Text} → Goes X s out t → ((r : Text) (v : List A) → X t r v → ⊥) → (r : Text) (w : List A) → X s r w → ⊥
goes_none g stuck r w y = let (v, is, more) = g.back r w y in stuck r v more
