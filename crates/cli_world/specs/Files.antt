-- What is known of files, by their names.
use Rattle.std.specs.Prelude.{◌≡◌, ◌⊎◌, List, ℕ, Option, Some}

-- the bytes of each file, where they are known
abbrev pub Files : Type 0
Files = List ℕ → Option (List ℕ)

-- the file of that name has these bytes, if its bytes are known
abbrev pub Has : Files → List ℕ → List ℕ → Type 0
Has files name bytes = (b : List ℕ) → files name ≡ Some b → b ≡ bytes

-- each file has the bytes that it had
abbrev pub Kept : Files → Files → Type 0
Kept old new = (p : List ℕ) → new p ≡ old p

-- the file of that name has these bytes, and each other file those that it had
pub record Replaced (name bytes : List ℕ) (old new : Files) : Type 0 where
  pub others : (p : List ℕ) → (new p ≡ old p) ⊎ ((p ≡ name) × (new p ≡ Some bytes))
  pub this : (b : List ℕ) → old name ≡ Some b → new name ≡ Some bytes
