-- Values, as they are shown.
use Rattle.std.specs.Prelude.{Bool, true, ℕ, List, [], ◌∷◌, ◌++◌, encode_utf8_all}
use Rattle.kdl.specs.Words.{Text, Value, print_value, text}

-- a value as it is shown: a string without quotes and escapes if `raw`, and else as it is printed
abbrev pub shown_value : Bool → Value → Text
shown_value true (text s) = s
shown_value raw v = print_value v

-- a value on a line, in bytes
abbrev pub line_of : Bool → Value → List ℕ
line_of raw v = encode_utf8_all (shown_value raw v) ++ (10 ∷ [])
