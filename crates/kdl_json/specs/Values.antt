-- Texts that are written for a value.
use Rattle.std.specs.Prelude.{◌≡◌, ℕ, List, ◌∷◌, codes}
use Rattle.std.specs.Str.{encode_utf8_all}
use Rattle.json.specs.Token.{Token, begin_object, end_object, key, number, string}
use Rattle.kdl_text.specs.Chars.{Text}
use Rattle.kdl_value.specs.Data.{Value}
use Rattle.kdl_value.specs.Data as data'
use Rattle.kdl_json.specs.Form.{value_tokens}

-- the value is written as that number, and as that string in an object
abbrev pub IsNumberOf : List ℕ → Value → Type 0
IsNumberOf s v = (ts : List Token) → number s ∷ ts ≡ value_tokens v ts

abbrev pub IsFloatOf : List ℕ → Value → Type 0
IsFloatOf s v = (ts : List Token) → begin_object ∷ key (codes "float") ∷ string s ∷ end_object ∷ ts ≡ value_tokens v ts

-- the value is that string
pub record IsTextOf (s : List ℕ) (v : Value) : Type 0 where
  pub characters : Text
  pub is : v ≡ data'.text characters
  pub bytes : encode_utf8_all characters ≡ s
