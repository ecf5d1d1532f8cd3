-- What the result of a reader says of a relation, and what it costs.
use Rattle.std.specs.Prelude.{◌≡◌, ℕ, ◌+◌, ◌*◌, ◌<◌, ◌≤◌, ◌↔◌, Bool, true, false, List, ◌++◌, length}
use Rattle.kdl_text.specs.Chars.{Text, Star, Newline, begins, times}
use Rattle.kdl_text.specs.Strings.{Run}
use Rattle.kdl_text.specs.Internal.Here.{Here, Stayed}
use Rattle.kdl_text.specs.Spans.{bytes, raise}

-- exactly one piece begins here, and rest is what is left of the text after it, or none does
abbrev pub Reads : (Text → Text → Type 0) → Bool → Text → Text → Type 0
Reads R true s rest = (r : Text) → R s r ↔ (r ≡ rest)
Reads R false s rest = (r : Text) → R s r → ⊥

-- the cursor advanced in the same text, and its count did not fall
pub record Moves (old new : Here) : Type 0 where
  pub piece : (p : Text) × (old.rest ≡ p ++ new.rest)
  pub at : new.at + bytes new.rest ≡ old.at + bytes old.rest
  pub counts : raise old.steps 0 ≤ raise new.steps 0
  pub same : new.text ≡ old.text

-- at most k steps for each byte that was read, and c more, and at least one for each character
pub record Costs (k c : ℕ) (old new : Here) : Type 0 where
  pub most : new.steps + k * bytes new.rest ≤ old.steps + k * bytes old.rest + c
  pub least : raise old.steps (length old.rest) ≤ raise new.steps (length new.rest)

-- the cursor advanced, at such costs
pub record Past (k c : ℕ) (old new : Here) : Type 0 where
  pub moves : Moves old new
  pub costs : Costs k c old new

-- R relates the text and what is left of it, and the cursor advanced at such costs
pub record Consumed (k c : ℕ) (R : Text → Text → Type 0) (old new : Here) : Type 0 where
  pub reads : R old.rest new.rest
  pub past : Past k c old new

-- n times the character c, and no more of it
pub record AllOf (c n : ℕ) (s rest : Text) : Type 0 where
  pub text : s ≡ times n c ++ rest
  pub stops : begins c rest ≡ false

-- likewise, but no more than `most` times
pub record AtMost (c most n : ℕ) (s rest : Text) : Type 0 where
  pub text : s ≡ times n c ++ rest
  pub few : n ≤ most
  pub stops : n < most → begins c rest ≡ false

-- the piece is the longest run of characters of a class
pub record CutsRun (p : ℕ → Bool) (piece s rest : Text) : Type 0 where
  pub run : Run p s rest
  pub text : s ≡ piece ++ rest

-- a run of pieces begins here, and none more after it
abbrev pub Longest : (Text → Text → Type 0) → Text → Text → Type 0
Longest R s rest = Star R s rest × ((t : Text) → R rest t → ⊥)

-- a newline was read if one begins here, and else nothing
abbrev pub ReadsNewline : Bool → Here → Here → Type 0
ReadsNewline true old new = Newline old.rest new.rest
ReadsNewline false old new = Stayed 1 old new × ((t : Text) → Newline old.rest t → ⊥)

-- the value of an X from s is `out`, and then that of an X from t
pub record Goes {A : Type 0} (X : Text → Text → List A → Type 0) (s : Text) (out : List A) (t : Text) : Type 0 where
  pub on : (r : Text) (v : List A) → X t r v → X s r (out ++ v)
  pub back : (r : Text) (w : List A) → X s r w → (v : List A) × (w ≡ out ++ v) × X t r v
