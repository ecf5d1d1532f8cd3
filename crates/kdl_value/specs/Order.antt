-- The order of values.
use Rattle.std.specs.Prelude.{ℕ}
use Rattle.std.specs.Str.{encode_utf8_all}
use Rattle.std.specs.Ordering.{nat_cmp, int_cmp, bool_cmp}
use Rattle.std.specs.Cmp.Lexicographic.{slice_cmp}
use Rattle.std.specs.declared.cmp.Ordering.{Ordering}
use Rattle.kdl_text.specs.Chars.{Text}
use Rattle.kdl_value.specs.Data.{Value, text, integer, float, truth, null}

-- the place of a value's kind: strings, whole numbers, floats, booleans, null
abbrev pub kind_place : Value → ℕ
kind_place (text s) = 0
kind_place (integer z) = 1
kind_place (float s) = 2
kind_place (truth b) = 3
kind_place null = 4

-- texts in the order of their bytes in UTF-8
abbrev pub text_order : Text → Text → Ordering
text_order s t = slice_cmp nat_cmp (encode_utf8_all s) (encode_utf8_all t)

-- values in the order of their kinds, and within a kind of their contents
abbrev pub value_order : Value → Value → Ordering
value_order (text s) (text t) = text_order s t
value_order (integer y) (integer z) = int_cmp y z
value_order (float s) (float t) = text_order s t
value_order (truth a) (truth b) = bool_cmp a b
value_order v w = nat_cmp (kind_place v) (kind_place w)
