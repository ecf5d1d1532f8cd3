-- What a writer that holds what it held is not.
use Rattle.std.proofs.Common.{◌≡◌, ℕ, ◌+◌, ◌<◌, false, List, ◌++◌, length, Some, ap, ◌∙◌, arith, length-append, inl, inr}
use Rattle.watched.specs.Streams.{Gets, Grows, Stream}

none_appended : (bytes held : List ℕ) → 0 < length bytes → held ≡ held ++ bytes → ⊥
none_appended bytes held some same =
    let size : length held ≡ length held + length bytes = ap length same ∙ length-append held bytes in
    omega (arith, some, size)

pub not_given : (bytes held : List ℕ) (old new : Stream) → 0 < length bytes → old.bytes ≡ Some held → new.bytes ≡ Some held → Grows bytes old new → ⊥
not_given bytes held old new some held_then holds_now (grew, same) =
    none_appended bytes held some (rw (held_then, holds_now) at grew)

pub not_given_or_cut : (bytes held : List ℕ) (old new : Stream) → 0 < length bytes → old.bytes ≡ Some held → new.bytes ≡ Some held → new.failed ≡ false → Gets bytes old new → ⊥
not_given_or_cut bytes held old new some held_then holds_now sound (inl grew) = not_given bytes held old new some held_then holds_now grew
not_given_or_cut bytes held old new some held_then holds_now sound (inr (part, fails)) = cc
