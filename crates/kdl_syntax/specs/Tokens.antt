-- Tokens, and the cut of a text into tokens.
use Rattle.std.specs.Prelude.{◌≡◌, List, [], ◌∷◌}
use Rattle.kdl_text.specs.Chars.{Text}
use Rattle.kdl_text.specs.Trivia.{NodeSpace, Break}
use Rattle.kdl_value.specs.Data.{Value}
use Rattle.kdl_syntax.specs.Pieces.{StringPiece, PlainPiece}

-- a node-space, a break, `/-`, a string, a number or keyword, `( ) { } = ;`, and U+FEFF
pub data Token : Type 0 where
  space : Token
  newline : Token
  slashdash : Token
  string : Text → Token
  value : Value → Token
  left : Token
  right : Token
  opening : Token
  closing : Token
  equals : Token
  semicolon : Token
  bom : Token

-- the token k begins the text, and leaves the second text
pub data BeginsToken : Text → Token → Text → Type 0 where
  t_space : {s r : Text} → NodeSpace s r → BeginsToken s space r
  t_newline : {s r : Text} → Break s r → BeginsToken s newline r
  t_slashdash : {r : Text} → BeginsToken (47 ∷ 45 ∷ r) slashdash r
  t_string : {s r v : Text} → StringPiece s r v → BeginsToken s (string v) r
  t_value : {s r : Text} {v : Value} → PlainPiece s r v → BeginsToken s (value v) r
  t_left : {r : Text} → BeginsToken (40 ∷ r) left r
  t_right : {r : Text} → BeginsToken (41 ∷ r) right r
  t_opening : {r : Text} → BeginsToken (123 ∷ r) opening r
  t_closing : {r : Text} → BeginsToken (125 ∷ r) closing r
  t_equals : {r : Text} → BeginsToken (61 ∷ r) equals r
  t_semicolon : {r : Text} → BeginsToken (59 ∷ r) semicolon r
  t_bom : {r : Text} → BeginsToken (0xFEFF ∷ r) bom r

-- the text is cut into the tokens, with nothing left
pub data Lexes : Text → List Token → Type 0 where
  done : Lexes [] []
  next : {s r : Text} {k : Token} {ks : List Token} → BeginsToken s k r → Lexes r ks → Lexes s (k ∷ ks)

-- no token begins at s, which is not the end of the text
pub record NoToken (s : Text) : Type 0 where
  pub begun : s ≡ [] → ⊥
  pub none : (r : Text) (k : Token) → BeginsToken s k r → ⊥
