-- How the results of the readers of what a slashdash drops relate to the text after the `/-`.
use Rattle.std.specs.Prelude.{◌≡◌, ℕ, Bool, true, false, if◌then◌else◌, [], ◌++◌, Option, Some, None}
use Rattle.kdl_text.specs.Chars.{Text}
use Rattle.kdl_text.specs.Spans.{bytes}
use Rattle.kdl_syntax.specs.Tokens.{Token}
use Rattle.kdl_syntax.specs.Control.{Control, at}
use Rattle.kdl_syntax.specs.declared.control.Phase.TheVariants.{NodeSlashdash}
use Rattle.kdl_syntax.specs.Internal.Views.{ended_view}
use Rattle.kdl_syntax.specs.declared.control.Ended.{Ended}
use Rattle.kdl_layout.specs.Internal.Lacking.{EndsNode}
use Rattle.kdl_layout.specs.Internal.Passing.{Goal, for_node, for_part, End, returned, ended, Passes, NodePasses, PartPasses, slashdash_in}
use Rattle.kdl_layout.specs.Items.{ItemEnd, Place, after_block, spaced, takes_blocks}
use Rattle.kdl_layout.specs.declared.spaces.Ending.{Ending}

-- the text r is in s after n bytes
abbrev pub Before : Text → ℕ → Text → Type 0
Before s n r = (p : Text) × (s ≡ p ++ r) × (bytes p ≡ n)

-- the item of the node after the `/-` ends after so many bytes, and its terminator, if there is one, ends so
pub data EndsAt (t : Text) (e : ℕ × Option Ending) : Type 0 where
  returns : {k : Token} {u v i : Text} {y : Ending} (w : Text) → NodePasses (at NodeSlashdash []) t t (returned k u v) → ItemEnd u v i → t ≡ w ++ v → Before t e.0 i → EndsNode v u y → e.1 ≡ Some y → EndsAt t e
  ends : {w : Text} → NodePasses (at NodeSlashdash []) t t (ended w) → Before t e.0 w → e.1 ≡ None → EndsAt t e

-- the control comes to no end
abbrev pub EndsNowhere : Goal → Control → Text → Type 0
EndsNowhere g c t = (e : End) → Passes g c t t e → ⊥

abbrev pub AnswersDroppedNode : Text → Option (ℕ × Option Ending) → Type 0
AnswersDroppedNode t (Some e) = EndsAt t e
AnswersDroppedNode t None = EndsNowhere for_node (at NodeSlashdash []) t

-- an entry or a block that is slashdashed in the place ends there
abbrev pub AnswersDroppedPart : Place → Text → Option (ℕ × Ended) → Type 0
AnswersDroppedPart p t (Some e) = (u : Text) × PartPasses (slashdash_in p) t t (ended_view e.1) u × Before t e.0 u
AnswersDroppedPart p t None = EndsNowhere for_part (slashdash_in p) t

-- whether what was slashdashed may be in the place: a block, or an entry
abbrev pub takes : Place → Bool → Bool
takes p is_block = if is_block then takes_blocks p else true

-- the place after it
abbrev pub next_place : Place → Bool → Place
next_place p is_block = if is_block then after_block else spaced false p

abbrev pub AfterPart : Place → Bool → Option Place → Type 0
AfterPart p b (Some q) = (takes p b ≡ true) × (q ≡ next_place p b)
AfterPart p b None = takes p b ≡ false
