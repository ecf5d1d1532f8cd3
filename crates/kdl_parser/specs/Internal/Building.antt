-- The machine's state that the builder's fields represent, and what its steps return.
use Rattle.std.specs.Prelude.{◌≡◌, List, [], ◌∷◌, map, Option, Some, None, option_map, Result, Ok, Err}
use Rattle.std.specs.Global.{Box}
use Rattle.kdl_text.specs.Chars.{Text}
use Rattle.kdl_syntax.specs.Internal.Views.{control_view}
use Rattle.kdl_entry.specs.Internal.Building.{type_view, parts_view}
use Rattle.kdl_entry.specs.declared.parsing.parts.TypeParts.{TypeParts}
use Rattle.kdl_value.specs.Data.{text}
pub use Rattle.kdl_entry.specs.Internal.Counted.{EndsIn, InOrder}
use Rattle.kdl_entry.specs.Internal.Parts as under_way
use Rattle.kdl_entry.specs.Internal.Parts.{entry_at}
use Rattle.kdl_entry.specs.Places.{span_of}
use Rattle.kdl_value.specs.Tree.{text_of}
use Rattle.kdl_entry.specs.Tree.{Identifier, identifier_tree, plain_identifier, Entry, entry_tree}
use Rattle.kdl_syntax.specs.declared.lexer.LexFailure.{LexFailure}
use Rattle.kdl_syntax.specs.declared.lexer.LexFailure.TheVariants.{Faulty, Memory}
use Rattle.kdl_grammar.specs.Internal.Machine as machine
use Rattle.kdl_grammar.specs.Internal.Machine.{Slot, no_name, for_name, no_value, for_value, pending, at, State, with_entry}
use Rattle.kdl_grammar.specs.Tree.{Node, Nodes}
use Rattle.kdl_parser.specs.Internal.Dropping.{Reading, nothing, node, part, reading_state}
use Rattle.kdl_parser.specs.Internal.Parts.{nodes_tree, document_by}
use Rattle.kdl_parser.specs.declared.builder.Builder.{Builder}
use Rattle.kdl_parser.specs.declared.builder.Under.{Under}
use Rattle.kdl_parser.specs.declared.builder.WaitingWord.{WaitingWord}
use Rattle.kdl_parser.specs.declared.builder.dropping.Dropped.{Dropped}
use Rattle.kdl_parser.specs.declared.builder.dropping.Dropped.TheVariants.{Nothing, Node as DroppedNode, Part as DroppedPart}
use Rattle.kdl_syntax.specs.declared.control.{Phase.Phase, Word.Word, Owner.Owner, Word.TheVariants.MayBeKey, Word.TheVariants.NoKey, Owner.TheVariants.Name, Owner.TheVariants.Value}
use Rattle.kdl_syntax.specs.declared.control.Phase.TheVariants.{Gap, NodeSlashdash, TypeOpen, TypeName, TypeDone, InNode, Property, EntrySlashdash, BlockSlashdash, Kept, KeptSlashdash}
use Rattle.kdl_syntax.specs.declared.control.Spot.TheVariants.{Fresh, Spaced, Later}

-- a type on the heap
abbrev pub boxed_type : Box TypeParts → under_way.TypeParts
boxed_type b = type_view b.value

abbrev pub under_view : {N : Type 0} → Under N → machine.Under
under_view u = record {
  leading = text_of u.leading;
  start = u.start.rest;
  ty = option_map boxed_type u.ty;
  name = identifier_tree u.name;
  entries = map entry_tree u.entries.items.items;
}

-- the open block of a node, in terms of the tree of a node
abbrev pub level_view : {N : Type 0} → (N → Node) → Under N → machine.Frame
level_view tree u = machine.in_block (Some (under_view u)) (text_of u.before) (Some (nodes_tree tree u.nodes.items))

-- the open blocks, with those in acc around them; the last one is the innermost
abbrev pub stacked : {N : Type 0} → (N → Node) → List machine.Frame → List (Under N) → List machine.Frame
stacked tree acc [] = acc
stacked tree acc (u ∷ us) = stacked tree (level_view tree u ∷ acc) us

-- the pending string as an identifier: it is an argument unless `=` follows, and ends where the current place begins
abbrev pub word_name : Text → Text → WaitingWord → Identifier
word_name whole from w = record { value = text_of w.value; repr = Some w.repr; span = span_of whole w.start.rest from }

abbrev pub word_entry : Text → Text → WaitingWord → Entry
word_entry whole from w = entry_at (span_of whole w.start.rest from) (text_of w.leading) None None (text (text_of w.value)) w.repr

-- the current node, with the pending string as its last argument
abbrev pub under_now : Text → Text → Option WaitingWord → machine.Under → machine.Under
under_now whole from None u = u
under_now whole from (Some w) u = with_entry u (word_entry whole from w)

-- the string that may be a key: the pending one, or a slashdashed one
abbrev pub pending_now : Word → Text → Text → Option WaitingWord → machine.Under → Option machine.Pending
pending_now NoKey whole from o u = None
pending_now MayBeKey whole from None u = Some (pending (no_value (Some u)) (plain_identifier []) [])
pending_now MayBeKey whole from (Some w) u = Some (pending (for_value u (text_of w.leading) w.start.rest None) (word_name whole from w) from)

-- what a type belongs to
abbrev pub slot_of : Owner → machine.Under → under_way.Parts → Slot
slot_of Name u it = for_name it.leading it.start
slot_of Value u it = for_value u it.leading it.start it.key

-- the current node, with the pending string
abbrev pub node_now : {N : Type 0} → Builder N → machine.Under
node_now b = under_now b.cursor.text b.from.rest b.waiting (under_view b.under)

-- the node u with the current block
abbrev pub kept_of : {N : Type 0} → (N → Node) → Builder N → machine.Under → machine.Kept
kept_of tree b u = record { under = u; before = text_of b.under.before; block = document_by tree b.block }

-- the current node with its block
abbrev pub kept_now : {N : Type 0} → (N → Node) → Builder N → machine.Kept
kept_now tree b = kept_of tree b (node_now b)

abbrev pub phase_now : {N : Type 0} → (N → Node) → Builder N → Phase → machine.Phase
phase_now tree b Gap = machine.gap
phase_now tree b NodeSlashdash = machine.node_slashdash
phase_now tree b (TypeOpen o) = machine.type_open o (slot_of o (under_view b.under) (parts_view b.parts)) b.parts.from.rest
phase_now tree b (TypeName o) = machine.type_name o (slot_of o (under_view b.under) (parts_view b.parts)) (text_of b.parts.before) (identifier_tree b.parts.name) b.parts.from.rest
phase_now tree b (TypeDone o) = machine.type_done o (slot_of o (under_view b.under) (parts_view b.parts)) (text_of b.parts.before) (identifier_tree b.parts.name) (text_of b.parts.after) b.parts.from.rest
phase_now tree b (InNode (Fresh w)) = machine.in_node (Some (node_now b)) (machine.fresh (pending_now w b.cursor.text b.from.rest b.waiting (under_view b.under)))
phase_now tree b (InNode (Spaced w)) = machine.in_node (Some (node_now b)) (machine.spaced (pending_now w b.cursor.text b.from.rest b.waiting (under_view b.under)))
phase_now tree b (InNode Later) = machine.in_node (Some (node_now b)) machine.later
phase_now tree b Property = machine.property (for_value (under_view b.under) (text_of b.parts.leading) b.parts.start.rest None) (identifier_tree b.parts.name) (text_of b.parts.before) b.parts.from.rest
phase_now tree b EntrySlashdash = machine.entry_slashdash (Some (node_now b))
phase_now tree b BlockSlashdash = machine.block_slashdash (Some (node_now b))
phase_now tree b Kept = machine.kept (Some (kept_now tree b))
phase_now tree b KeptSlashdash = machine.kept_slashdash (Some (kept_now tree b))

-- the nodes before the current one
abbrev pub nodes_now : {N : Type 0} → (N → Node) → Builder N → Option Nodes
nodes_now tree b = Some (nodes_tree tree b.nodes.items.items)

abbrev pub frames_view : {N : Type 0} → (N → Node) → Builder N → List machine.Frame
frames_view tree b = stacked tree [] b.levels.items

-- the builder's state in a phase
abbrev pub in_phase : {N : Type 0} → (N → Node) → Builder N → machine.Phase → State
in_phase tree b p = at p (nodes_now tree b) (frames_view tree b) b.from.rest

-- what is slashdashed and being read
abbrev pub reading_view : Dropped → Reading
reading_view Nothing = nothing
reading_view (DroppedNode c) = node (control_view c)
reading_view (DroppedPart p) = part (control_view p.control)

-- the phase after it
abbrev pub phase_after : Dropped → Phase
phase_after (DroppedPart p) = p.control.phase
phase_after _ = Gap

abbrev pub state_by : {N : Type 0} → (N → Node) → Builder N → Reading → State
state_by tree b d = reading_state (node_now b) (kept_now tree b) (nodes_now tree b) (frames_view tree b) b.from.rest (in_phase tree b (phase_now tree b b.phase)) d

-- the state that the builder's fields represent
abbrev pub state_view : {N : Type 0} → (N → Node) → Builder N → State
state_view tree b = state_by tree b (reading_view b.dropped)

-- what a step did, by the machine's; an allocation failure says nothing
abbrev pub Did : {A : Type 0} → Option State → Result A LexFailure → State → Type 0
Did o (Ok x) st = o ≡ Some st
Did o (Err Faulty) st = o ≡ None
Did o (Err Memory) st = Unit {0}

-- the place a is in the text t, and begins before s, if it is kept
abbrev pub place_placed : Text → Slot → Text → Text → Type 0
place_placed t no_name a s = Unit {0}
place_placed t (for_name leading start) a s = InOrder t a s
place_placed t (no_value u) a s = Unit {0}
place_placed t (for_value u leading start k) a s = InOrder t a s

-- the current places are in the text t, and begin before s
abbrev pub phase_placed : Text → machine.Phase → Text → Type 0
phase_placed t (machine.type_open b c a) s = place_placed t c a s
phase_placed t (machine.type_name b c q i a) s = place_placed t c a s
phase_placed t (machine.type_done b c q i d a) s = place_placed t c a s
phase_placed t (machine.property c k b a) s = place_placed t c a s
phase_placed t p s = Unit {0}

abbrev pub Placed : Text → State → Text → Type 0
Placed t (at p l fs from) s = InOrder t from s × phase_placed t p s
