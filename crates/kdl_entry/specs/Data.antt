-- What an entry says, whatever its form.
use Rattle.std.specs.Prelude.{Option}
use Rattle.kdl_text.specs.Chars.{Text}
use Rattle.kdl_value.specs.Data.{Value}

-- an argument, or a property with its key; with an optional type
pub record Entry : Type 0 where
  pub key : Option Text
  pub ty : Option Text
  pub value : Value
