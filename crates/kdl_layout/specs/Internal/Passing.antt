-- What the control does after a slashdash, up to the end of what the slashdash drops.
use Rattle.std.specs.Prelude.{◌≡◌, Bool, true, false, ◌&&◌, not, if◌then◌else◌, [], Some}
use Rattle.kdl_text.specs.Chars.{Text}
use Rattle.kdl_syntax.specs.Tokens.{Token, space, equals, BeginsToken}
use Rattle.kdl_syntax.specs.Control.{Control, at, step, held, finish, is_gap, is_over, is_block, is_word}
use Rattle.kdl_syntax.specs.declared.control.Phase.{Phase}
use Rattle.kdl_syntax.specs.declared.control.Phase.TheVariants.{Gap, EntrySlashdash, BlockSlashdash}
use Rattle.kdl_layout.specs.Items.{Place, takes_entries}

abbrev pub of_spaces : Token → Bool
of_spaces space = true
of_spaces _ = false

-- where the last token that is not a node-space ends
abbrev pub moved : Token → Text → Text → Text
moved k last r = if of_spaces k then last else r

abbrev pub follows_word : Token → Bool
follows_word space = true
follows_word equals = true
follows_word _ = false

-- no `=` and no space begins the text: a string before it is not a key
pub data EndsWord : Text → Type 0 where
  at_end : EndsWord []
  before : {s r : Text} {k : Token} → BeginsToken s k r → follows_word k ≡ false → EndsWord s

-- what is dropped: a node, or an entry or a block
pub data Goal : Type 0 where
  for_node : Goal
  for_part : Goal

-- a slashdashed node ends with its terminator, a token between two texts, or with the place: then node-spaces come after it. An entry, or a block, ends before a text
pub data End : Type 0 where
  returned : Token → Text → Text → End
  ended : Text → End
  part_end : Bool → Text → End

-- the control ends before the text s; the last token so far that is not a node-space ended before `last`
pub data Stops : Goal → Control → Text → Text → End → Type 0 where
  returns : {c : Control} {last s r : Text} {k : Token} → BeginsToken s k r → step c k ≡ Some (at Gap []) → Stops for_node c last s (returned k s r)
  ends : {c : Control} {last : Text} → is_gap c ≡ false → finish c ≡ true → Stops for_node c last [] (ended last)
  over : {c : Control} {last s : Text} → is_over c ≡ true → Stops for_part c last s (part_end (is_block c) last)
  word : {c : Control} {last s : Text} → is_word c ≡ true → EndsWord s → Stops for_part c last s (part_end false last)

-- the control goes on over the token
abbrev pub goes_on : Goal → Control → Token → Bool
goes_on for_node c k = not (held is_gap (step c k))
goes_on for_part c k = not (is_over c) && not (is_word c && not (follows_word k))

-- the control continues over the text s up to the end
pub data Passes (g : Goal) : Control → Text → Text → End → Type 0 where
  stops : {c : Control} {last s : Text} {e : End} → Stops g c last s e → Passes g c last s e
  goes : {c d : Control} {last s r : Text} {k : Token} {e : End} → BeginsToken s k r → step c k ≡ Some d → goes_on g c k ≡ true → Passes g d (moved k last r) r e → Passes g c last s e

abbrev pub NodePasses : Control → Text → Text → End → Type 0
NodePasses = Passes for_node

abbrev pub PartPasses : Control → Text → Text → Bool → Text → Type 0
PartPasses c last s b u = Passes for_part c last s (part_end b u)

-- the phase after the `/-` in a place of a node
abbrev pub slashdash_phase : Bool → Phase
slashdash_phase true = EntrySlashdash
slashdash_phase false = BlockSlashdash

abbrev pub slashdash_in : Place → Control
slashdash_in p = at (slashdash_phase (takes_entries p)) []
