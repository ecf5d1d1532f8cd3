-- What clones of errors have, on their trees.
use Rattle.kdl_laws.proofs.Common.{◌≡◌, List, [], ◌∷◌, map, ap, refl, arith, Result, Ok, Err, IfOk, KdlDiagnostic, KdlError, ParseFailure, Syntax, Memory, diagnostic_tree, error_tree, failure_tree}
use Rattle.std.proofs.Common.{MatchResult}
use Rattle.std.proofs.lemmas.Grind.{common_steps}
use Rattle.std.specs.List.{AllZip}
use Rattle.std.specs.declared.alloc.AllocError.{AllocError}
use Rattle.kdl_text.specs.contracts.error.KdlDiagnosticClone.TheImpl as diagnostic_clone
use Rattle.kdl_text.specs.contracts.error.KdlErrorClone.TheImpl as error_clone
use Rattle.kdl_text.specs.contracts.error.ParseFailureClone.TheImpl as failure_clone
use Rattle.kdl_laws.specs.Errors.{syntax'}

diagnostic_cloned : (d e : KdlDiagnostic) → diagnostic_clone.ghosts.is_clone d e → diagnostic_tree e ≡ diagnostic_tree d
diagnostic_cloned d e h = grind (arith, common_steps)

diagnostics_cloned : (xs ys : List KdlDiagnostic) → AllZip diagnostic_clone.ghosts.is_clone xs ys → map diagnostic_tree ys ≡ map diagnostic_tree xs
diagnostics_cloned [] [] h = refl
diagnostics_cloned [] (y ∷ ys) h = absurd h
diagnostics_cloned (x ∷ xs) [] h = absurd h
diagnostics_cloned (x ∷ xs) (y ∷ ys) h = let one = diagnostic_cloned x y h.0 in let more = diagnostics_cloned xs ys h.1 in cc

error_cloned : (e f : KdlError) → error_clone.ghosts.is_clone e f → error_tree f ≡ error_tree e
error_cloned e f h = let text = h.0 in let told = diagnostics_cloned e.diagnostics.items f.diagnostics.items h.1.0 in cc

failure_cloned : (f g : ParseFailure) → failure_clone.ghosts.is_clone f g → failure_tree g ≡ failure_tree f
failure_cloned (Syntax e) (Syntax f) h = ap syntax' (error_cloned e f h)
failure_cloned Memory Memory h = refl
failure_cloned (Syntax e) Memory h = absurd h
failure_cloned Memory (Syntax e) h = absurd h

pub error_copy : (e : KdlError) (r : Result KdlError AllocError) → MatchResult r (error_clone.ghosts.is_clone e) (λ x. error_clone.ghosts.is_infallible e → ⊥) → IfOk r (λ f. error_tree f ≡ error_tree e)
error_copy e (Ok f) h = error_cloned e f h
error_copy e (Err x) h = tt

pub failure_copy : (f : ParseFailure) (r : Result ParseFailure AllocError) → MatchResult r (failure_clone.ghosts.is_clone f) (λ x. failure_clone.ghosts.is_infallible f → ⊥) → IfOk r (λ g. failure_tree g ≡ failure_tree f)
failure_copy f (Ok g) h = failure_cloned f g h
failure_copy f (Err x) h = tt
