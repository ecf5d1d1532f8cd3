-- What is known of a writer.
use Rattle.std.specs.Prelude.{◌≡◌, ◌⊎◌, ℕ, ◌<◌, Bool, true, List, length, take, Option}
use Rattle.std.specs.Io.KnownBytes.{Appends}
use Rattle.watched.specs.declared.flags.Watched.{Watched}

-- what a writer was given, where that is known, and whether a write of it failed
pub record Stream : Type 0 where
  pub bytes : Option (List ℕ)
  pub failed : Bool

-- what is known of a watched writer
abbrev pub stream : {W : Type 0} → (W → Option (List ℕ)) → Watched W → Stream
stream contents w = record { bytes = contents w.inner; failed = w.failed }

-- a writer was given all of the bytes
abbrev pub Grows : List ℕ → Stream → Stream → Type 0
Grows bytes old new = Appends old.bytes new.bytes bytes × (new.failed ≡ old.failed)

-- a write failed before a writer was given all of the bytes
abbrev pub IsCut : List ℕ → Stream → Stream → Type 0
IsCut bytes old new = ((n : ℕ) × (n < length bytes) × Appends old.bytes new.bytes (take n bytes)) × (new.failed ≡ true)

-- one of both
abbrev pub Gets : List ℕ → Stream → Stream → Type 0
Gets bytes old new = Grows bytes old new ⊎ IsCut bytes old new
