-- What the results of the readers of escapes say of the text.
use Rattle.std.specs.Prelude.{◌≡◌, ℕ, ◌∷◌, false, Option, IfSome, IfNone}
use Rattle.kdl_text.specs.Chars.{Text}
use Rattle.kdl_text.specs.Internal.Here.{Here}
use Rattle.kdl_text.specs.Internal.Reading.{Past}
use Rattle.kdl_text.specs.Strings.{StringUnit, IsUnit, HexNumber, escape, is_escaped_space}

-- a hexadecimal number and `}` were read, or none is here
pub record ReadsHex (result : Option ℕ) (old new : Here) : Type 0 where
  pub found : IfSome result (λ c. HexNumber old.rest new.rest c)
  pub none : IfNone result ((r : Text) (c : ℕ) → HexNumber old.rest r c → ⊥)
  pub past : Past 1 1 old new

-- the rest of an escape was read, after its backslash and this letter, or none is here
pub record ReadsEscape (letter : ℕ) (result : Option ℕ) (old new : Here) : Type 0 where
  pub found : IfSome result (λ c. IsUnit (92 ∷ letter ∷ old.rest) new.rest (escape c))
  pub none : is_escaped_space letter ≡ false → IfNone result ((r : Text) (u : StringUnit) → IsUnit (92 ∷ letter ∷ old.rest) r u → ⊥)
  pub past : Past 1 1 old new
