-- Strings that are written one after another, up to the first that does not fit.
use Rattle.std.specs.Prelude.{◌≡◌, ℕ, ◌-◌, ◌++◌, List, [], ◌∷◌, Option, None, Some, String, drop, if◌then◌else◌, length, nat_le, string_bytes, take}
use Rattle.std.specs.List.{concat}
use Rattle.std.specs.declared.alloc.Global.{Global}
use Rattle.kdl_text.specs.Spans.{raise}

-- the bytes of a string, or no bytes if there is no string
abbrev pub words_of : Option (String Global) → List ℕ
words_of None = []
words_of (Some s) = string_bytes s

-- the strings in order, up to the first that does not fit
abbrev pub fitting : ℕ → List (List ℕ) → List ℕ
fitting room [] = []
fitting room (t ∷ ts) = if nat_le (length t) room then t ++ fitting (room - length t) ts else []

-- the buffer after a list is written from its start, as far as it fits; what is after the list is unchanged
abbrev pub over : {A : Type 0} → List A → List A → List A
over xs buffer = take (length buffer) xs ++ drop (length xs) buffer

-- `strings` is the buffer `before` after these texts are written from its start, up to the first that does not fit;
-- `used` is the number of bytes of all texts, up to 2 ^ 64 - 1
pub record HasPut (before : List ℕ) (ts : List (List ℕ)) (strings : List ℕ) (used : ℕ) : Type 0 where
  pub written : strings ≡ over (fitting (length before) ts) before
  pub counted : used ≡ raise 0 (length (concat ts))
