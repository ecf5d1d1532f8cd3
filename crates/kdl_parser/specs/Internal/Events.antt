-- What a token does to the builder, by what it is for the tree; none if no such token is that.
use Rattle.std.specs.Prelude.{◌≡◌, ℕ, Bool, true, false, Option, Some, None, Result, if◌then◌else◌}
use Rattle.kdl_text.specs.Chars.{Text}
use Rattle.kdl_text.specs.Internal.Here.{Here, Position}
use Rattle.kdl_text.specs.Spans.{bytes}
use Rattle.kdl_syntax.specs.Tokens.{Token, newline, slashdash, string, value, left, right, opening, closing, equals}
use Rattle.kdl_syntax.specs.declared.control.Owner.TheVariants.{Name as OfName, Value as OfValue}
use Rattle.kdl_syntax.specs.declared.control.Phase.{Phase}
use Rattle.kdl_syntax.specs.declared.control.Phase.TheVariants.{Gap, NodeSlashdash, TypeOpen, TypeName as TypeNamed, TypeDone, InNode, Property, EntrySlashdash as PhaseEntrySlashdash, BlockSlashdash, Kept, KeptSlashdash}
use Rattle.kdl_syntax.specs.declared.control.Spot.TheVariants.{Fresh, Spaced, Later}
use Rattle.kdl_syntax.specs.declared.control.Word.TheVariants.{MayBeKey, NoKey}
use Rattle.kdl_syntax.specs.declared.events.Event.{Event}
use Rattle.kdl_syntax.specs.declared.events.Event.TheVariants.{Skip, Name, TypedName, NameType, ValueType, KeyedType, TypeName, TypeEnd, Word, Argument, TypedValue, KeyedValue, Equals, EntrySlashdash, NodeEnd, KeptEnd, Opening, GapClosing, NodeClosing, KeptClosing}
use Rattle.kdl_syntax.specs.declared.lexer.LexFailure.{LexFailure}
use Rattle.kdl_syntax.specs.declared.token_span.TokenSpan.{TokenSpan}
use Rattle.kdl_value.specs.Data.{Value}
use Rattle.kdl_entry.specs.Internal.Counted.{Within}
use Rattle.kdl_grammar.specs.Internal.Machine.{State}
use Rattle.kdl_grammar.specs.Tree.{Node}
use Rattle.kdl_parser.specs.Internal.Building.{in_phase, phase_now, state_view, Placed}
use Rattle.kdl_parser.specs.Internal.Counted.{unsliced_in}
use Rattle.kdl_parser.specs.Internal.States.{step_in, Steps}
use Rattle.kdl_parser.specs.declared.builder.Builder.{Builder}
use Rattle.kdl_parser.specs.declared.builder.dropping.Dropped.{Dropped}
use Rattle.kdl_parser.specs.declared.builder.dropping.Dropped.TheVariants.{Nothing}

-- The event is the machine's step in a phase in which such a token is that event.
abbrev pub value_step : {N : Type 0} → (N → Node) → Builder N → Event → Value → TokenSpan → Option State
value_step tree b Argument v span = step_in tree b (InNode (Spaced NoKey)) (value v) span
value_step tree b TypedValue v span = step_in tree b (TypeDone OfValue) (value v) span
value_step tree b KeyedValue v span = step_in tree b Property (value v) span
value_step tree b _ v span = None

abbrev pub string_step : {N : Type 0} → (N → Node) → Builder N → Event → Text → TokenSpan → Option State
string_step tree b Name v span = step_in tree b Gap (string v) span
string_step tree b TypedName v span = step_in tree b (TypeDone OfName) (string v) span
string_step tree b (TypeName o) v span = step_in tree b (TypeOpen o) (string v) span
string_step tree b Word v span = step_in tree b (InNode (Spaced NoKey)) (string v) span
string_step tree b TypedValue v span = step_in tree b (TypeDone OfValue) (string v) span
string_step tree b KeyedValue v span = step_in tree b Property (string v) span
string_step tree b _ v span = None

abbrev pub mark_step : {N : Type 0} → (N → Node) → Builder N → Event → TokenSpan → Option State
mark_step tree b (Skip p) span = Some (in_phase tree b (phase_now tree b p))
mark_step tree b NameType span = step_in tree b Gap left span
mark_step tree b ValueType span = step_in tree b (InNode (Spaced NoKey)) left span
mark_step tree b KeyedType span = step_in tree b Property left span
mark_step tree b (TypeEnd o) span = step_in tree b (TypeNamed o) right span
mark_step tree b Equals span = step_in tree b (InNode (Fresh MayBeKey)) equals span
mark_step tree b EntrySlashdash span = step_in tree b (InNode (Fresh NoKey)) slashdash span
mark_step tree b NodeEnd span = step_in tree b (InNode Later) newline span
mark_step tree b KeptEnd span = step_in tree b Kept newline span
mark_step tree b (Opening f) span = step_in tree b (InNode Later) opening span
mark_step tree b GapClosing span = step_in tree b Gap closing span
mark_step tree b NodeClosing span = step_in tree b (InNode Later) closing span
mark_step tree b KeptClosing span = step_in tree b Kept closing span
mark_step tree b _ span = None

abbrev pub event_step : {N : Type 0} → (N → Node) → Builder N → Event → Token → TokenSpan → Option State
event_step tree b e (string v) span = string_step tree b e v span
event_step tree b e (value v) span = value_step tree b e v span
event_step tree b e k span = mark_step tree b e span

-- whether the token belongs to what has a type or a key
abbrev pub is_of_parts : Event → Bool
is_of_parts TypedName = true
is_of_parts (TypeName o) = true
is_of_parts (TypeEnd o) = true
is_of_parts TypedValue = true
is_of_parts KeyedValue = true
is_of_parts KeyedType = true
is_of_parts _ = false

-- then the entry's current place ends at s
abbrev pub WithinIf : Bool → Here → Position → Position → Type 0
WithinIf true z from s = Within z from s
WithinIf false z from s = Unit {0}

-- the bytes that were not sliced before the token, from the start of the entry's current place, or of the builder's
abbrev pub unsliced_before : Event → ℕ → ℕ → ℕ
unsliced_before (Skip p) from item = unsliced_in p from item
unsliced_before e from item = if is_of_parts e then item else from

-- whether the builder's phase may be this: after a `/-` it is not
abbrev pub is_live : Phase → Bool
is_live NodeSlashdash = false
is_live PhaseEntrySlashdash = false
is_live BlockSlashdash = false
is_live KeptSlashdash = false
is_live _ = true

-- nothing slashdashed is being read, and none begins at the next token
abbrev pub is_building : Dropped → Phase → Bool
is_building Nothing p = is_live p
is_building _ p = false

-- inside or outside of what is slashdashed, where the current places end at s
pub record StandsAt {N : Type 0} (is : Bool) (tree : N → Node) (b : Builder N) (s : Position) : Type 0 where
  pub building : is_building b.dropped b.phase ≡ is
  pub placed : Placed b.cursor.text (state_view tree b) s.rest

-- what a token did that is this for the tree, given the state to which it brings the builder
abbrev pub Acts : {N : Type 0} → (N → Node) → Event → Option State → Builder N → Result (Unit {0}) LexFailure → Builder N → Type 0
Acts tree e o old result new = Steps tree o (unsliced_before e (bytes old.from.rest) (bytes old.parts.from.rest)) old result new
