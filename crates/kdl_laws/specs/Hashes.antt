-- The hashes of two things that are equal.
use Rattle.std.specs.Prelude.{◌≡◌, List, fold}

-- one and other are two hashers before, and one' and other' are they after each was written these bytes
pub record WritesBoth {H A : Type 0} (write : H → A → H) (bytes : List A) (one one' other other' : H) : Type 0 where
  pub first : one' ≡ fold write one bytes
  pub second : other' ≡ fold write other bytes
  -- equal hashers stay equal
  pub equal : one ≡ other → one' ≡ other'
