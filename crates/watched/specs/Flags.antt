-- What calls of a reader or a writer do to the flags on it.
use Rattle.std.specs.Prelude.{◌≡◌, ℕ, Bool, true, false, not, ◌&&◌, ◌==◌, Result, Ok, Err}
use Rattle.watched.specs.declared.flags.Watched.{Watched}

-- the read returned no byte
abbrev pub gave_none : {E : Type 0} → Result ℕ E → Bool
gave_none (Ok n) = n == 0
gave_none (Err e) = false

-- the write failed, or wrote none of some bytes
abbrev pub is_refused : {E : Type 0} → Result ℕ E → ℕ → Bool
is_refused (Ok n) bytes = (n == 0) && not (bytes == 0)
is_refused (Err e) bytes = true

-- if no call on it had failed, no call came after one that failed
abbrev pub StopsAtFailure : {T : Type 0} → Watched T → Watched T → Type 0
StopsAtFailure old new = old.failed ≡ false → new.went_on ≡ old.went_on
