-- The machine's states inside what is slashdashed, by those of the machine without data.
-- u is the current node, x that node with its block; both are `None` in a slashdashed node.
use Rattle.std.specs.Prelude.{◌≡◌, Bool, true, false, List, [], ◌∷◌, Option, Some, None, option_map}
use Rattle.kdl_text.specs.Chars.{Text}
use Rattle.kdl_entry.specs.Tree.{plain_identifier}
use Rattle.kdl_syntax.specs.Control as c
use Rattle.kdl_syntax.specs.declared.control.{Phase.Phase as ControlPhase, Spot.Spot as ControlSpot, Frame.Frame as ControlFrame, Word.Word as ControlWord, Owner.Owner, Word.TheVariants.MayBeKey, Word.TheVariants.NoKey, Owner.TheVariants.Name as OfName, Owner.TheVariants.Value as OfValue}
use Rattle.kdl_syntax.specs.declared.control.Phase.TheVariants.{Gap, NodeSlashdash, TypeOpen, TypeName, TypeDone, InNode, Property, EntrySlashdash, BlockSlashdash, Kept as KeptPhase, KeptSlashdash}
use Rattle.kdl_syntax.specs.declared.control.Spot.TheVariants.{Fresh, Spaced, Later}
use Rattle.kdl_syntax.specs.declared.control.Frame.TheVariants.{Node as NodeBlock, Dropped as DroppedBlock, Later as LaterBlock}
use Rattle.kdl_syntax.specs.Tokens.{Token, closing}
use Rattle.kdl_grammar.specs.Internal.Machine.{Under, Kept, Slot, no_name, no_value, pending, Pending, Spot, fresh, spaced, later, Phase, gap, node_slashdash, type_open, type_name, type_done, in_node, property, entry_slashdash, block_slashdash, kept, kept_slashdash, Frame, in_block, in_dropped, in_later, State, at}
use Rattle.kdl_grammar.specs.Tree.{Nodes}

-- the slot of what has a type: a name, unless it is in a node
abbrev pub slot : Owner → Option Under → Slot
slot OfName None = no_name
slot OfName (Some u) = no_value (Some u)
slot OfValue u = no_value u

-- a slashdashed string that may be a key
abbrev pub word : ControlWord → Option Under → Option Pending
word NoKey u = None
word MayBeKey u = Some (pending (no_value u) (plain_identifier []) [])

abbrev pub spot : Option Under → ControlSpot → Spot
spot u (Fresh b) = fresh (word b u)
spot u (Spaced b) = spaced (word b u)
spot u Later = later

abbrev pub phase : Option Under → Option Kept → ControlPhase → Phase
phase u x Gap = gap
phase u x NodeSlashdash = node_slashdash
phase u x (TypeOpen b) = type_open b (slot b u) []
phase u x (TypeName b) = type_name b (slot b u) [] (plain_identifier []) []
phase u x (TypeDone b) = type_done b (slot b u) [] (plain_identifier []) [] []
phase u x (InNode p) = in_node u (spot u p)
phase u x Property = property (no_value u) (plain_identifier []) [] []
phase u x EntrySlashdash = entry_slashdash u
phase u x BlockSlashdash = block_slashdash u
phase u x KeptPhase = kept x
phase u x KeptSlashdash = kept_slashdash x

-- the block of the node x, which is built if there is one; else that of a slashdashed node
abbrev pub block_of : Option Kept → Option Nodes → Frame
block_of None l = in_block None [] l
block_of (Some x) l = in_later (Some x) l

-- the outermost block inside what is slashdashed, with the nodes around it
abbrev pub outermost : ControlFrame → Option Under → Option Kept → Option Nodes → Frame
outermost NodeBlock u x l = block_of x l
outermost DroppedBlock u x l = in_dropped u l
outermost LaterBlock u x l = in_later x l

-- the open blocks inside what is slashdashed, and those around it
abbrev pub frames : Option Under → Option Kept → Option Nodes → List Frame → List ControlFrame → List Frame
frames u x l fs [] = fs
frames u x l fs (g ∷ []) = outermost g u x l ∷ fs
frames u x l fs (g ∷ h ∷ gs) = outermost g None None None ∷ frames u x l fs (h ∷ gs)

-- the state inside what is slashdashed, among the nodes l and in the blocks fs
abbrev pub inside : Option Under → Option Kept → Option Nodes → List Frame → Text → c.Control → State
inside u x l fs from (c.at p []) = at (phase u x p) l fs from
inside u x l fs from (c.at p (g ∷ gs)) = at (phase None None p) None (frames u x l fs (g ∷ gs)) from

-- a slashdashed node is over before the token: it is ended, or the `}` of the block around it follows
abbrev pub is_node_over : Token → c.Control → Bool
is_node_over closing d = c.finish d
is_node_over k d = c.is_gap d

-- after a `/-` between nodes
abbrev pub is_before_node : c.Control → Bool
is_before_node (c.at NodeSlashdash []) = true
is_before_node _ = false

-- what is slashdashed and being read: nothing, a node, or a part of the current node
pub data Reading : Type 0 where
  nothing : Reading
  node : c.Control → Reading
  part : c.Control → Reading

-- something is slashdashed and being read
abbrev pub is_reading : Reading → Bool
is_reading nothing = false
is_reading _ = true

-- what is slashdashed, directly after the `/-` of the phase
abbrev pub after_slashdash : ControlPhase → Reading
after_slashdash NodeSlashdash = node (c.at NodeSlashdash [])
after_slashdash p = part (c.at p [])

-- it is over before the token
abbrev pub is_over : Token → Reading → Bool
is_over k nothing = false
is_over k (node d) = is_node_over k d
is_over k (part d) = c.finish d

-- after the token
abbrev pub next : Token → Reading → Option Reading
next k nothing = None
next k (node d) = option_map node (c.step d k)
next k (part d) = option_map part (c.step d k)

-- the state while it is being read, where st is the state outside of it
abbrev pub reading_state : Under → Kept → Option Nodes → List Frame → Text → State → Reading → State
reading_state u x l fs from st nothing = st
reading_state u x l fs from st (node d) = inside None None l fs from d
reading_state u x l fs from st (part d) = inside (Some u) (Some x) l fs from d

-- a part of a node does not begin between nodes
abbrev pub Begun : Reading → Type 0
Begun (part d) = is_before_node d ≡ false
Begun d = Unit {0}
