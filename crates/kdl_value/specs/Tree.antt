-- Values with every text, whatever their layout in memory.
use Rattle.std.specs.Prelude.{ℤ, Bool, true, false, Option, Some, None, String, string_bytes}
use Rattle.std.specs.Str.{chars}
use Rattle.std.specs.declared.alloc.Global.{Global}
use Rattle.kdl_text.specs.Chars.{Text}
use Rattle.kdl_value.specs.Data.{Value, text, integer, float, truth, null}
use Rattle.kdl_value.specs.declared.float.KdlFloat.{KdlFloat}
use Rattle.kdl_value.specs.declared.value.KdlValue.{KdlValue}
use Rattle.kdl_value.specs.declared.value.KdlValue.TheVariants.{String as StringValue, Integer, Float as FloatValue, Bool as BoolValue, Null}

-- the text of a string
abbrev pub text_value : Value → Option Text
text_value (text s) = Some s
text_value _ = None

-- the whole number of a value
abbrev pub integer_value : Value → Option ℤ
integer_value (integer z) = Some z
integer_value _ = None

-- the text of a float
abbrev pub float_value : Value → Option Text
float_value (float s) = Some s
float_value _ = None

-- the boolean
abbrev pub truth_value : Value → Option Bool
truth_value (truth b) = Some b
truth_value _ = None

-- whether the value is null
abbrev pub is_null : Value → Bool
is_null null = true
is_null _ = false

-- the value that an option represents: null for none
abbrev pub or_null : Option Value → Value
or_null None = null
or_null (Some v) = v

-- the characters of a text in memory
abbrev pub text_of : String Global → Text
text_of s = chars (string_bytes s)

-- the text of a float
abbrev pub float_text_of : KdlFloat → Text
float_text_of f = text_of f.text

-- the value in memory, with texts as characters
abbrev pub value_tree : KdlValue → Value
value_tree (StringValue s) = text (text_of s)
value_tree (Integer z) = integer z
value_tree (FloatValue f) = float (float_text_of f)
value_tree (BoolValue b) = truth b
value_tree Null = null
