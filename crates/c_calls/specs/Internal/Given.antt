-- What is parsed from a text that C gives.
use Rattle.std.specs.Prelude.{◌≡◌, IfSome, String, true}
use Rattle.std.specs.declared.alloc.Global.{Global}
use Rattle.kdl.specs.Words.{Entry, LaidEntryText, Text, cleared, value_tree}
use Rattle.c_calls.specs.Entries.{IsValueText}
use Rattle.c_calls.specs.Internal.Values.{is_value}
use Rattle.kdl_value.specs.Tree.{text_of}
use Rattle.kdl_value.specs.declared.value.KdlValue.{KdlValue}

-- e is the entry of the text, without its format and spellings
abbrev pub IsCleared : Text → Entry → Type 0
IsCleared t e = (x : Entry) × LaidEntryText t x × (e ≡ cleared x)

-- the entry is only a value, v, and s is the spelling in its format, if it has one
pub record IsPlain (e : Entry) (v : KdlValue) (s : String Global) : Type 0 where
  pub alone : is_value e ≡ true
  pub value : value_tree v ≡ e.value
  pub spelling : IfSome e.format (λ f. text_of s ≡ f.value_repr)

-- the text is the value v, and s has the text
abbrev pub IsSpelled : Text → KdlValue → String Global → Type 0
IsSpelled t v s = IsValueText t (value_tree v) × (text_of s ≡ t)
