-- Raw strings in either form (KDL 2.0.0, Raw String).
-- `X t r us`: an X begins the text t, leaves r, and has the units us.
use Rattle.std.specs.Prelude.{◌≡◌, ℕ, ◌<◌, Bool, true, false, not, ◌&&◌, ◌==◌, List, [], ◌∷◌, ◌++◌}
use Rattle.kdl_text.specs.Chars.{Text, Newline, begins_with, times, is_raw}
use Rattle.kdl_text.specs.Dedent.{Dedents, LineUnit, Literal, LineEnd}

-- the closing of a raw string: a number of quotes, and then a number of number signs
abbrev pub closing : ℕ → ℕ → Text
closing quotes signs = times quotes 34 ++ times signs 35

-- a newline, or another character at which the closing does not begin
pub data RawUnit (close : Text) : Text → Text → LineUnit → Type 0 where
  char : {c : ℕ} {r : Text} → begins_with close (c ∷ r) ≡ false → is_raw c ≡ true → RawUnit close (c ∷ r) r (Literal c)
  line : {t r : Text} → Newline t r → RawUnit close t r LineEnd

-- such units in a row
pub data RawUnits (close : Text) : Text → Text → List LineUnit → Type 0 where
  none : {r : Text} → RawUnits close r r []
  more : {t m r : Text} {u : LineUnit} {us : List LineUnit} → RawUnit close t m u → RawUnits close m r us → RawUnits close t r (u ∷ us)

-- such units, and after them the closing
pub data RawContent (close : Text) : Text → Text → List LineUnit → Type 0 where
  content : {t m r : Text} {us : List LineUnit} → RawUnits close t m us → m ≡ close ++ r → RawContent close t r us

-- the characters as units of a line
abbrev pub literals : Text → List LineUnit
literals [] = []
literals (c ∷ s) = Literal c ∷ literals s

-- not one quote, and no two quotes at the front
abbrev pub is_single : Text → Bool
is_single [] = true
is_single (c ∷ []) = not (c == 34)
is_single (c ∷ d ∷ v) = not (c == 34 && d == 34)

-- number signs, a quote, and a line up to a quote and as many number signs
pub record RawString (t r v : Text) : Type 0 where
  pub signs : ℕ
  pub some : 0 < signs
  pub body : Text
  pub text : t ≡ times signs 35 ++ 34 ∷ body
  pub content : RawContent (closing 1 signs) body r (literals v)
  pub single : is_single v ≡ true

-- a newline, and lines up to three quotes and `signs` number signs
pub data MultiLineRawBody (signs : ℕ) : Text → Text → Text → Type 0 where
  lines : {t m r v : Text} {us : List LineUnit} → Newline t m → RawContent (closing 3 signs) m r us → Dedents us v → MultiLineRawBody signs t r v

-- number signs, three quotes, and after them such a body
pub record MultiLineRawString (t r v : Text) : Type 0 where
  pub signs : ℕ
  pub some : 0 < signs
  pub body : Text
  pub text : t ≡ times signs 35 ++ 34 ∷ 34 ∷ 34 ∷ body
  pub is_body : MultiLineRawBody signs body r v

-- a raw string in either form
pub data IsRaw : Text → Text → Text → Type 0 where
  on_one_line : {t r v : Text} → RawString t r v → IsRaw t r v
  on_many_lines : {t r v : Text} → MultiLineRawString t r v → IsRaw t r v
