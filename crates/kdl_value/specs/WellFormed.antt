-- Values that memory can hold.
use Rattle.std.specs.Prelude.{◌≡◌, true, FitsSigned}
use Rattle.std.specs.Int.{w128}
use Rattle.std.specs.List.{list_all}
use Rattle.kdl_text.specs.Chars.{is_scalar}
use Rattle.kdl_text.specs.Numbers.{FloatText}
use Rattle.kdl_value.specs.Data.{Value, text, integer, float, truth, null}

-- a value that memory can hold: a text of Unicode scalar values, a signed whole number of 128 bits, the text of a float, a boolean, or null
abbrev pub IsWellFormed : Value → Type 0
IsWellFormed (text s) = list_all is_scalar s ≡ true
IsWellFormed (integer z) = FitsSigned w128 z
IsWellFormed (float s) = FloatText s
IsWellFormed (truth b) = Unit {0}
IsWellFormed null = Unit {0}
