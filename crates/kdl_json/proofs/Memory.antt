-- A failure that is passed on.
use Rattle.std.proofs.Common.{◌≡◌, Result, ap, ◌∙◌}
use Rattle.std.specs.Prelude.{Ok, Err}
use Rattle.std.specs.Result.{IsErrAnd}
use Rattle.kdl_json.specs.declared.failure.JsonFailure.{JsonFailure}
use Rattle.kdl_json.specs.declared.failure.JsonFailure.TheVariants.{Memory}

-- a failure for lack of memory, after a `?`
pub is_memory : {T : Type 0} (r : Result T JsonFailure) (e : JsonFailure) → e ≡ Memory → IsErrAnd r (λ f. f ≡ e) → r ≡ Err Memory
is_memory (Ok v) e m h = absurd h
is_memory (Err f) e m h = ap Err (h ∙ m)
