-- What a value says, whatever its form.
use Rattle.std.specs.Prelude.{ℤ, Bool}
use Rattle.kdl_text.specs.Chars.{Text}

-- a string, a whole number, a float as its text, a boolean, or null
pub data Value : Type 0 where
  text : Text → Value
  integer : ℤ → Value
  float : Text → Value
  truth : Bool → Value
  null : Value
