-- How far the control reads in a text.
use Rattle.std.specs.Prelude.{◌≡◌, false, [], ◌∷◌, ◌++◌, Option, Some, None}
use Rattle.kdl_text.specs.Chars.{Text, begins}
use Rattle.kdl_syntax.specs.Tokens.{Token, BeginsToken}
use Rattle.kdl_syntax.specs.Control.{Control, at, step}
use Rattle.kdl_syntax.specs.declared.control.Phase.TheVariants.{Gap}

-- by these steps, from one state to the other over the tokens of s up to the rest r
pub data GoesBy {S : Type 0} (step : S → Token → Option S) : S → Text → S → Text → Type 0 where
  here : {c : S} {s : Text} → GoesBy step c s c s
  goes : {c c' d : S} {s t r : Text} {k : Token} → BeginsToken s k t → step c k ≡ Some c' → GoesBy step c' t d r → GoesBy step c s d r

-- it goes from one state to the other by the tokens of s up to the rest r
abbrev pub Goes : Control → Text → Control → Text → Type 0
Goes = GoesBy step

-- it reaches the state by the text t of a document up to the rest r: by its tokens, after the U+FEFF that t may begin with
pub data Reaches : Text → Control → Text → Type 0 where
  no_bom : {t r : Text} {c : Control} → begins 0xFEFF t ≡ false → Goes (at Gap []) t c r → Reaches t c r
  after_bom : {t r : Text} {c : Control} → Goes (at Gap []) t c r → Reaches (0xFEFF ∷ t) c r

-- it refuses each token at the start of a text with this front
abbrev pub RefusesFront : Control → Text → Type 0
RefusesFront c f = (u r : Text) (k : Token) → BeginsToken (f ++ u) k r → step c k ≡ None
