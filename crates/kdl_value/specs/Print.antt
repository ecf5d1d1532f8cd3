-- What values print.
use Rattle.std.specs.Prelude.{Bool, true, false, codes}
use Rattle.std.specs.Fmt.{signed_decimal}
use Rattle.kdl_text.specs.Chars.{Text}
use Rattle.kdl_value.specs.Data.{Value, text, integer, float, truth, null}
use Rattle.kdl_value.specs.Spelled.{spelled}

-- the keyword of a boolean
abbrev pub print_truth : Bool → Text
print_truth true = codes "#true"
print_truth false = codes "#false"

-- a string as it is spelled, a whole number in base 10, a float as it is, else a keyword
abbrev pub print_value : Value → Text
print_value (text s) = spelled s
print_value (integer z) = signed_decimal z
print_value (float s) = s
print_value (truth b) = print_truth b
print_value null = codes "#null"
