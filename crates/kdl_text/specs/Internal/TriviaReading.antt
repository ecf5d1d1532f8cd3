-- What the results of the readers of comments and spaces say of the text.
use Rattle.std.specs.Prelude.{◌≡◌, ℕ, ◌<◌, Bool, true, false, [], ◌∷◌}
use Rattle.kdl_text.specs.Chars.{Text, begins_two, Star}
use Rattle.kdl_text.specs.Internal.Here.{Here, Stayed}
use Rattle.kdl_text.specs.Spans.{bytes}
use Rattle.kdl_text.specs.Internal.Reading.{Reads, Costs, Past, Longest}
use Rattle.kdl_text.specs.Trivia.{BlockComment, LineComment, Ws}
use Rattle.kdl_text.specs.declared.trivia.SlashRead.{SlashRead}
use Rattle.kdl_text.specs.declared.trivia.SlashRead.TheVariants.{Block, Line, Dash, Unclosed, Other}

-- the cursor advanced by at least a character, at no more than k steps for each byte
pub record PieceCosts (k : ℕ) (old new : Here) : Type 0 where
  pub fewer : bytes new.rest < bytes old.rest
  pub costs : Costs k 0 old new

-- a block comment begins here, and it is unclosed
pub record Opens (s : Text) : Type 0 where
  pub opens : begins_two 47 42 s ≡ true
  pub unclosed : (r : Text) → BlockComment s r → ⊥

-- the longest run of spaces and block comments was read, or one of the comments is unclosed
abbrev pub RunsWs : Bool → Here → Here → Type 0
RunsWs true old new = Longest Ws old.rest new.rest × (begins_two 47 42 new.rest ≡ false)
RunsWs false old new = (u : Text) × Star Ws old.rest u × Opens u

-- the same, and what it costs
pub record RanWs (r : Bool) (old new : Here) : Type 0 where
  pub reads : RunsWs r old new
  pub past : Past 3 3 old new

-- what begins with the slash here
abbrev pub ReadsSlash : SlashRead → Here → Here → Type 0
ReadsSlash Block old new = Reads BlockComment true old.rest new.rest
ReadsSlash Line old new = Reads LineComment true old.rest new.rest
ReadsSlash Dash old new = old.rest ≡ 47 ∷ 45 ∷ new.rest
ReadsSlash Unclosed old new = Opens old.rest × (new.rest ≡ [])
ReadsSlash Other old new = (begins_two 47 42 old.rest ≡ false) × (begins_two 47 47 old.rest ≡ false) × (begins_two 47 45 old.rest ≡ false) × Stayed 6 old new

-- what a reader of what a slash begins costs
abbrev pub SlashCosts : SlashRead → Here → Here → Type 0
SlashCosts Other old new = Costs 0 6 old new
SlashCosts _ old new = PieceCosts 9 old new
