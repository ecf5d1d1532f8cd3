-- The control grammar: what a token is in each phase, and the control after it, in the present language.
use Rattle.std.specs.Prelude.{Bool, true, false, List, [], ◌∷◌, Option, Some, None}
use Rattle.kdl_syntax.specs.Tokens.{Token, space, newline, slashdash, string, value, left, right, opening, closing, equals, semicolon}
use Rattle.kdl_syntax.specs.declared.control.{Frame.Frame, Phase.Phase, Spot.Spot}
use Rattle.kdl_syntax.specs.declared.control.Frame.TheVariants.{Node, Dropped, Later as LaterBlock}
use Rattle.kdl_syntax.specs.declared.control.Owner.TheVariants.{Name as OfName, Value as OfValue}
use Rattle.kdl_syntax.specs.declared.control.Phase.TheVariants.{Gap, NodeSlashdash, TypeOpen, TypeName, TypeDone, InNode, Property, EntrySlashdash, BlockSlashdash, Kept, KeptSlashdash}
use Rattle.kdl_syntax.specs.declared.control.Spot.TheVariants.{Fresh, Spaced, Later}
use Rattle.kdl_syntax.specs.declared.control.Word.TheVariants.{MayBeKey, NoKey}
use Rattle.kdl_syntax.specs.declared.events.Event.{Event}
use Rattle.kdl_syntax.specs.declared.events.Event.TheVariants as e

-- after spaces
abbrev pub spaced_of : Spot → Spot
spaced_of (Fresh w) = Spaced w
spaced_of (Spaced w) = Spaced w
spaced_of Later = Later

-- what the token is for the tree; none if it may not come here
abbrev pub event_of : Phase → Token → Option Event
event_of Gap space = Some (e.Skip Gap)
event_of Gap newline = Some (e.Skip Gap)
event_of Gap slashdash = Some (e.Skip NodeSlashdash)
event_of Gap (string v) = Some e.Name
event_of Gap left = Some e.NameType
event_of Gap closing = Some e.GapClosing
event_of NodeSlashdash space = Some (e.Skip NodeSlashdash)
event_of NodeSlashdash newline = Some (e.Skip NodeSlashdash)
event_of NodeSlashdash (string v) = Some e.Name
event_of NodeSlashdash left = Some e.NameType
event_of (TypeOpen o) space = Some (e.Skip (TypeOpen o))
event_of (TypeOpen o) (string v) = Some (e.TypeName o)
event_of (TypeName o) space = Some (e.Skip (TypeName o))
event_of (TypeName o) right = Some (e.TypeEnd o)
event_of (TypeDone o) space = Some (e.Skip (TypeDone o))
event_of (TypeDone OfName) (string v) = Some e.TypedName
event_of (TypeDone OfValue) (string v) = Some e.TypedValue
event_of (TypeDone OfValue) (value v) = Some e.TypedValue
event_of Property space = Some (e.Skip Property)
event_of Property (string v) = Some e.KeyedValue
event_of Property (value v) = Some e.KeyedValue
event_of Property left = Some e.KeyedType
event_of (InNode p) space = Some (e.Skip (InNode (spaced_of p)))
event_of (InNode p) newline = Some e.NodeEnd
event_of (InNode p) semicolon = Some e.NodeEnd
event_of (InNode p) closing = Some e.NodeClosing
event_of (InNode p) opening = Some (e.Opening Node)
event_of (InNode Later) slashdash = Some (e.Skip BlockSlashdash)
event_of (InNode (Fresh w)) slashdash = Some e.EntrySlashdash
event_of (InNode (Spaced w)) slashdash = Some e.EntrySlashdash
event_of (InNode (Spaced w)) (string v) = Some e.Word
event_of (InNode (Spaced w)) (value v) = Some e.Argument
event_of (InNode (Spaced w)) left = Some e.ValueType
event_of (InNode (Fresh MayBeKey)) equals = Some e.Equals
event_of (InNode (Spaced MayBeKey)) equals = Some e.Equals
event_of EntrySlashdash space = Some (e.Skip EntrySlashdash)
event_of EntrySlashdash newline = Some (e.Skip EntrySlashdash)
event_of EntrySlashdash (string v) = Some e.Word
event_of EntrySlashdash (value v) = Some e.Argument
event_of EntrySlashdash left = Some e.ValueType
event_of EntrySlashdash opening = Some (e.Opening Dropped)
event_of BlockSlashdash space = Some (e.Skip BlockSlashdash)
event_of BlockSlashdash newline = Some (e.Skip BlockSlashdash)
event_of BlockSlashdash opening = Some (e.Opening Dropped)
event_of Kept space = Some (e.Skip Kept)
event_of Kept newline = Some e.KeptEnd
event_of Kept semicolon = Some e.KeptEnd
event_of Kept closing = Some e.KeptClosing
event_of Kept slashdash = Some (e.Skip KeptSlashdash)
event_of KeptSlashdash space = Some (e.Skip KeptSlashdash)
event_of KeptSlashdash newline = Some (e.Skip KeptSlashdash)
event_of KeptSlashdash opening = Some (e.Opening LaterBlock)
event_of _ _ = None

-- the phase after the token of an event; none where it opens or closes a block
abbrev pub next_phase : Event → Option Phase
next_phase (e.Skip p) = Some p
next_phase e.Name = Some (InNode (Fresh NoKey))
next_phase e.TypedName = Some (InNode (Fresh NoKey))
next_phase e.NameType = Some (TypeOpen OfName)
next_phase e.ValueType = Some (TypeOpen OfValue)
next_phase e.KeyedType = Some (TypeOpen OfValue)
next_phase (e.TypeName o) = Some (TypeName o)
next_phase (e.TypeEnd o) = Some (TypeDone o)
next_phase e.Word = Some (InNode (Fresh MayBeKey))
next_phase e.Argument = Some (InNode (Fresh NoKey))
next_phase e.TypedValue = Some (InNode (Fresh NoKey))
next_phase e.KeyedValue = Some (InNode (Fresh NoKey))
next_phase e.Equals = Some Property
next_phase e.EntrySlashdash = Some EntrySlashdash
next_phase e.NodeEnd = Some Gap
next_phase e.KeptEnd = Some Gap
next_phase _ = None

-- the phase, and the open blocks, the innermost first
pub data Control : Type 0 where
  at : Phase → List Frame → Control

-- after the `}` of the innermost block
abbrev pub popped : List Frame → Option Control
popped [] = None
popped (Node ∷ fs) = Some (at Kept fs)
popped (Dropped ∷ fs) = Some (at (InNode Later) fs)
popped (LaterBlock ∷ fs) = Some (at Kept fs)

-- in the next phase, or after a `}`
abbrev pub go_to : Option Phase → List Frame → Option Control
go_to None fs = popped fs
go_to (Some p) fs = Some (at p fs)

-- after the token of an event; none if there is no event
abbrev pub after : Option Event → List Frame → Option Control
after None fs = None
after (Some (e.Opening f)) fs = Some (at Gap (f ∷ fs))
after (Some event) fs = go_to (next_phase event) fs

-- the control after the token; none if the token may not come here
abbrev pub step : Control → Token → Option Control
step (at p fs) k = after (event_of p k) fs

-- the phase, where no block is open
abbrev pub without_block : Option Control → Option Phase
without_block (Some (at p [])) = Some p
without_block _ = None

-- the text may end here
abbrev pub finish : Control → Bool
finish (at Gap []) = true
finish (at (InNode p) []) = true
finish (at Kept []) = true
finish _ = false

-- there is a control, and f holds of it
abbrev pub held : (Control → Bool) → Option Control → Bool
held f None = false
held f (Some c) = f c

-- the tokens may come, and the text may end after them
abbrev pub accepts : Control → List Token → Bool
accepts c [] = finish c
accepts c (k ∷ ks) = held (λ c'. accepts c' ks) (step c k)

-- between nodes, with no block open
abbrev pub is_gap : Control → Bool
is_gap (at Gap []) = true
is_gap _ = false

-- what a slashdash drops in a node may end here, directly after a value or a block
abbrev pub is_over : Control → Bool
is_over (at (InNode (Fresh NoKey)) []) = true
is_over (at (InNode Later) []) = true
is_over _ = false

-- what ends here is a block
abbrev pub is_block : Control → Bool
is_block (at (InNode Later) []) = true
is_block _ = false

-- a string here may be a key: it is an argument if no `=` follows
abbrev pub is_word : Control → Bool
is_word (at (InNode (Fresh MayBeKey)) []) = true
is_word (at (InNode (Spaced MayBeKey)) []) = true
is_word _ = false
