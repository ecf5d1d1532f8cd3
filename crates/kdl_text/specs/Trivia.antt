-- Comments, spaces, esclines, slashdashes, and what may follow a value (KDL 2.0.0).
use Rattle.std.specs.Prelude.{◌≡◌, ℕ, Bool, true, false, ◌||◌, ◌==◌, [], ◌∷◌}
use Rattle.kdl_text.specs.Chars.{Text, is_newline_char, begins_two, Newline, Star, Space}

-- what follows the `/*` of a block comment: block comments and other characters, then `*/`
pub data Parts : Text → Text → Type 0 where
  close : {r : Text} → Parts (42 ∷ 47 ∷ r) r
  nested : {s t r : Text} → Parts s t → Parts t r → Parts (47 ∷ 42 ∷ s) r
  other : {c : ℕ} {s r : Text} → begins_two 47 42 (c ∷ s) ≡ false → begins_two 42 47 (c ∷ s) ≡ false → Parts s r → Parts (c ∷ s) r

-- `/*`, and all up to the `*/` that closes it
pub data BlockComment : Text → Text → Type 0 where
  block : {s r : Text} → Parts s r → BlockComment (47 ∷ 42 ∷ s) r

-- characters that are not part of a newline, then a newline or the end of the text
pub data Line : Text → Text → Type 0 where
  ends : Line [] []
  newline : {s r : Text} → Newline s r → Line s r
  other : {c : ℕ} {s r : Text} → is_newline_char c ≡ false → Line s r → Line (c ∷ s) r

-- `//`, and the rest of its line
pub data LineComment : Text → Text → Type 0 where
  line : {s r : Text} → Line s r → LineComment (47 ∷ 47 ∷ s) r

-- one space, or one block comment
pub data Ws : Text → Text → Type 0 where
  space : {s r : Text} → Space s r → Ws s r
  comment : {s r : Text} → BlockComment s r → Ws s r

-- what ends an escline: a line comment, a newline, or nothing if the text ends
pub data EscEnd : Text → Text → Type 0 where
  comment : {s r : Text} → LineComment s r → EscEnd s r
  newline : {s r : Text} → Newline s r → EscEnd s r
  ends : EscEnd [] []

-- `\`, spaces and block comments, and then its end
pub data Escline : Text → Text → Type 0 where
  escline : {s t r : Text} → Star Ws s t → EscEnd t r → Escline (92 ∷ s) r

-- what may separate the parts of a node: a space, a block comment or an escline
pub data NodeSpace : Text → Text → Type 0 where
  ws : {s r : Text} → Ws s r → NodeSpace s r
  escline : {s r : Text} → Escline s r → NodeSpace s r

-- what ends a node's line: a newline or a line comment
pub data Break : Text → Text → Type 0 where
  newline : {s r : Text} → Newline s r → Break s r
  comment : {s r : Text} → LineComment s r → Break s r

-- what may separate nodes: a node-space or a break
pub data LineSpace : Text → Text → Type 0 where
  space : {s r : Text} → NodeSpace s r → LineSpace s r
  «break» : {s r : Text} → Break s r → LineSpace s r

-- `/-`, and any number of line-spaces
pub data Slashdash : Text → Text → Type 0 where
  slashdash : {s r : Text} → Star LineSpace s r → Slashdash (47 ∷ 45 ∷ s) r

-- `= ) { } ;`, which may directly follow a value
unfoldable pub ends_value : ℕ → Bool
ends_value c = (((c == 61 || c == 41) || c == 123) || c == 125) || c == 59

-- what may follow a value
pub data ValueEnd (wide : Bool) : Text → Type 0 where
  -- the end of the text
  nothing : ValueEnd wide []
  -- one of `= ) { } ;`
  punctuation : {c : ℕ} {s : Text} → ends_value c ≡ true → ValueEnd wide (c ∷ s)
  -- a space
  space : {s t : Text} → Space s t → ValueEnd wide s
  -- a newline
  newline : {s t : Text} → Newline s t → ValueEnd wide s
  -- an escline
  escline : {s t : Text} → Escline s t → ValueEnd wide s
  -- `//`
  line_comment : {s : Text} → ValueEnd wide (47 ∷ 47 ∷ s)
  -- `/*`, whether the comment is closed or not
  block_comment : {s : Text} → ValueEnd wide (47 ∷ 42 ∷ s)
  -- `/-`, if `wide` holds
  slashdash : {s : Text} → wide ≡ true → ValueEnd wide (47 ∷ 45 ∷ s)
