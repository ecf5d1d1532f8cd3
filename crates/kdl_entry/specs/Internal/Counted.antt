-- What a call that slices asks of the places, and what it costs: at most a step for each byte of the slices.
use Rattle.std.specs.Prelude.{◌≡◌, ℕ, ◌+◌, ◌≤◌, ◌++◌, Result, OnOk}
use Rattle.kdl_text.specs.Chars.{Text}
use Rattle.kdl_text.specs.Internal.Here.{Here, Position, Ahead}
use Rattle.kdl_text.specs.Spans.{bytes, raise}

-- the second text is an end of the first
abbrev pub EndsIn : Text → Text → Type 0
EndsIn t s = (p : Text) × (t ≡ p ++ s)

-- both are ends of the text t, the third text of the second
abbrev pub InOrder : Text → Text → Text → Type 0
InOrder t from s = EndsIn t from × EndsIn t s × EndsIn from s

-- the places are in the cursor's text, in this order
abbrev pub Within : Here → Position → Position → Type 0
Within z from to = InOrder z.text from.rest to.rest

-- the first place is in the cursor's text, and the second one is ahead of it
abbrev pub Opens : Here → Position → Position → Type 0
Opens z from to = EndsIn z.text from.rest × Ahead from to

-- the cursor is the same but for its count, which did not fall
pub record Recounted (old new : Here) : Type 0 where
  pub text : new.text ≡ old.text
  pub rest : new.rest ≡ old.rest
  pub at : new.at ≡ old.at
  pub counts : raise old.steps 0 ≤ raise new.steps 0

-- of the m bytes before the end of the text that were not sliced yet, all but the last n may have been
pub record Sliced (m n : ℕ) (old new : ℕ) : Type 0 where
  pub most : new + n ≤ old + m

-- the text between two places was sliced: the cursor is the same but for its count
pub record Slices (from to : Position) (old new : Here) : Type 0 where
  pub same : Recounted old new
  pub sliced : Sliced (bytes from.rest) (bytes to.rest) old.steps new.steps

-- the same of a call that may fail: how much it sliced then is not said
pub record SlicesOn {A E : Type 0} (from to : Position) (result : Result A E) (old new : Here) : Type 0 where
  pub same : Recounted old new
  pub sliced : OnOk result (Sliced (bytes from.rest) (bytes to.rest) old.steps new.steps)
