-- The diagnostics of a text, one for each fault.
use Rattle.std.proofs.Common.{◌≡◌, ℕ, ◌+◌, ◌<◌, List, [], ◌∷◌, ◌++◌, length, get_or, sym, ap, subst, arith, length-append}
use Rattle.std.specs.List.{All}
use Rattle.std.specs.Str.{chars}
use Rattle.std.proofs.lemmas.List.Elements.{All-get_or, All-push, All-same}
use Rattle.kdl_text.specs.Failures.{IsToldOf}
use Rattle.kdl_text.specs.Spans.{InText}
use Rattle.kdl_text.specs.declared.error.KdlDiagnostic.{KdlDiagnostic}
use Rattle.kdl_diagnostics.specs.Internal.Noted.{Noted}
use Rattle.kdl_diagnostics.specs.declared.notes.Fault.{Fault}

pub noted_at : (text input : List ℕ) (fs : List Fault) (i : ℕ) (d : Fault) → input ≡ text → Noted (chars text) fs → i < length fs → InText (chars input) (get_or fs i d).span
noted_at text input fs i d e x l = subst (λ (z : List ℕ). InText (chars z) (get_or fs i d).span) (sym e) (All-get_or (λ (f : Fault). InText (chars text) f.span) fs i d l x)

pub told_more : (text input : List ℕ) (old new : List KdlDiagnostic) (d : KdlDiagnostic) → input ≡ text → new ≡ old ++ (d ∷ []) → All (IsToldOf text) old → IsToldOf input d → All (IsToldOf text) new
told_more text input old new d e f x y = All-same (IsToldOf text) new (old ++ (d ∷ [])) f (All-push (IsToldOf text) old d x (subst (λ (z : List ℕ). IsToldOf z d) e y))

pub told_count : (old new : List KdlDiagnostic) (d : KdlDiagnostic) (n : ℕ) → new ≡ old ++ (d ∷ []) → length old ≡ n → length new ≡ n + 1
told_count old new d n f e = omega (arith, ap length f, length-append old (d ∷ []), e)
