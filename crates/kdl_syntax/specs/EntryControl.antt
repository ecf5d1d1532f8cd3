-- The control of an entry text: which token may come where.
use Rattle.std.specs.Prelude.{Bool, true, false, [], Option, Some, None, option_map}
use Rattle.kdl_syntax.specs.Tokens.{Token, space, newline, slashdash, string, value, left, equals, semicolon}
use Rattle.kdl_syntax.specs.Control.{at, step, without_block}
use Rattle.kdl_syntax.specs.declared.control.{Phase.Phase, Spot.TheVariants.Fresh, Spot.TheVariants.Spaced, Owner.TheVariants.Value as OfValue}
use Rattle.kdl_syntax.specs.declared.control.Phase.TheVariants.{TypeOpen, InNode, Property, EntrySlashdash}
use Rattle.kdl_syntax.specs.declared.entry_control.EntryControl.{EntryControl}
use Rattle.kdl_syntax.specs.declared.entry_control.EntryControl.TheVariants.{Ahead, Dropping, Under, Word, Done}

-- the phase after a token in or after a slashdashed entry, where no block opens: neither a newline nor a `;` ends a node here, and spaces are due between the entry and the next slashdash
abbrev pub dropped_turn : Phase → Token → Option Phase
dropped_turn (InNode (Fresh w)) slashdash = None
dropped_turn (InNode p) newline = None
dropped_turn (InNode p) semicolon = None
dropped_turn p k = without_block (step (at p []) k)

-- after a token in the entry: its value ends it
abbrev pub under_phase : Option Phase → Option EntryControl
under_phase None = None
under_phase (Some (InNode p)) = Some Done
under_phase (Some p) = Some (Under p)

-- the control after the token; none if the token may not come here
abbrev pub entry_step : EntryControl → Token → Option EntryControl
entry_step Ahead space = Some Ahead
entry_step Ahead newline = Some Ahead
entry_step Ahead slashdash = Some (Dropping EntrySlashdash)
entry_step Ahead (string v) = Some Word
entry_step Ahead (value v) = Some Done
entry_step Ahead left = Some (Under (TypeOpen OfValue))
entry_step (Dropping (InNode (Spaced w))) (string v) = Some Word
entry_step (Dropping (InNode (Spaced w))) (value v) = Some Done
entry_step (Dropping (InNode (Spaced w))) left = Some (Under (TypeOpen OfValue))
entry_step (Dropping p) k = option_map Dropping (dropped_turn p k)
entry_step (Under p) k = under_phase (without_block (step (at p []) k))
entry_step Word space = Some Word
entry_step Word newline = Some Done
entry_step Word equals = Some (Under Property)
entry_step Done space = Some Done
entry_step Done newline = Some Done
entry_step _ _ = None

-- the text may end here
abbrev pub entry_finish : EntryControl → Bool
entry_finish Word = true
entry_finish Done = true
entry_finish _ = false
