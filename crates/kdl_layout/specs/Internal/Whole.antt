-- The string, number or keyword that a whole text is.
use Rattle.std.specs.Prelude.{Option, Some, None}
use Rattle.kdl_text.specs.Chars.{Text}
use Rattle.kdl_value.specs.Data.{Value, text}
use Rattle.kdl_value.specs.Tree.{value_tree}
use Rattle.kdl_layout.specs.Respelled.{IsSpelling}
use Rattle.kdl_layout.specs.declared.spelling.WholeText.{WholeText}
use Rattle.kdl_layout.specs.declared.spelling.WholeText.TheVariants.{Word, Value as AValue}

-- the value that it is
abbrev pub whole_view : WholeText → Value
whole_view (Word w) = text w
whole_view (AValue v) = value_tree v

-- what the text spells: this, or nothing
abbrev pub Spelled : Text → Option WholeText → Type 0
Spelled t None = (v : Value) → IsSpelling v t → ⊥
Spelled t (Some w) = IsSpelling (whole_view w) t
