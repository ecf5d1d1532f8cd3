-- What a writing function writes, by what it returns.
use Rattle.std.specs.Prelude.{ℕ, List, Option, Result, MatchResult}
use Rattle.watched.specs.Flags.{StopsAtFailure}
use Rattle.watched.specs.Streams.{Grows, IsCut, stream}
use Rattle.watched.specs.declared.flags.Watched.{Watched}

-- at Ok the writer was given all of the bytes, and at Err a write failed before; no call came after one that failed
abbrev pub Writes : {W T E : Type 0} → (W → Option (List ℕ)) → Watched W → Watched W → List ℕ → Result T E → Type 0
Writes contents old new bytes result =
    MatchResult result (λ _. Grows bytes (stream contents old) (stream contents new)) (λ _. IsCut bytes (stream contents old) (stream contents new)) × StopsAtFailure old new
