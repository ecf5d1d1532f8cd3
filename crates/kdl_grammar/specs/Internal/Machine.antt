-- The machine that builds the tree: it reads the tokens of a text once, with a stack of open blocks. The control says what a token is for the tree.
-- The token k is in the text s before r. The start of a place or an item is kept as the text from there on.
-- A `None` for a node or for nodes says that they are slashdashed, so that nothing of them is built, and no text of them is kept.
use Rattle.std.specs.Prelude.{◌≡◌, List, [], ◌∷◌, ◌++◌, Option, Some, None, option_map}
use Rattle.std.specs.Option.{option_and_then}
use Rattle.kdl_text.specs.Chars.{Text}
use Rattle.kdl_value.specs.Data.{Value, text}
use Rattle.kdl_syntax.specs.Tokens.{Token, string, value, BeginsToken}
use Rattle.kdl_syntax.specs.Control.{event_of}
use Rattle.kdl_entry.specs.Internal.EntryMachine.{value_of}
use Rattle.kdl_entry.specs.Internal.Parts.{TypeParts, KeyParts, type_of, before_name, after_name, after_type, identifier_at, entry_at}
use Rattle.kdl_entry.specs.Places.{span_of, between}
use Rattle.kdl_entry.specs.Tree.{Identifier, plain_identifier, Entry}
use Rattle.kdl_grammar.specs.Laid.{node_format, content_span, with_bom}
use Rattle.kdl_grammar.specs.Tree.{Node, node, Children, no_children, children, Document, document, Nodes, none, first, join}
use Rattle.kdl_syntax.specs.declared.control.{Owner.Owner, Owner.TheVariants.Name as OfName, Owner.TheVariants.Value as OfValue, Phase.Phase as ControlPhase, Spot.Spot as ControlSpot, Word.Word, Word.TheVariants.MayBeKey, Word.TheVariants.NoKey}
use Rattle.kdl_syntax.specs.declared.control.Phase.TheVariants.{Gap, NodeSlashdash, TypeOpen, TypeName, TypeDone, InNode, Property, EntrySlashdash, BlockSlashdash, Kept as KeptPhase, KeptSlashdash}
use Rattle.kdl_syntax.specs.declared.control.Spot.TheVariants.{Fresh, Spaced, Later}
use Rattle.kdl_syntax.specs.declared.events.Event.{Event}
use Rattle.kdl_syntax.specs.declared.events.Event.TheVariants as event

-- a node being read
pub record Under : Type 0 where
  pub leading : Text
  pub start : Text
  pub ty : Option TypeParts
  pub name : Identifier
  pub entries : List Entry

-- a node with its block, and the text before the block
pub record Kept : Type 0 where
  pub under : Under
  pub before : Text
  pub block : Document

-- what a type and a string or value belong to: a node's name or a value, which are kept or not
pub data Slot : Type 0 where
  no_name : Slot
  for_name : Text → Text → Slot
  no_value : Option Under → Slot
  for_value : Under → Text → Text → Option KeyParts → Slot

-- a string that may be a key, and where the place after it began
pub data Pending : Type 0 where
  pending : Slot → Identifier → Text → Pending

-- in a node before its block: directly after the name or an entry, or after spaces, or after a slashdashed block
pub data Spot : Type 0 where
  fresh : Option Pending → Spot
  spaced : Option Pending → Spot
  later : Spot

-- a type is for a name, or for a value
pub data Phase : Type 0 where
  gap : Phase
  node_slashdash : Phase
  type_open : Owner → Slot → Text → Phase
  type_name : Owner → Slot → Text → Identifier → Text → Phase
  type_done : Owner → Slot → Text → Identifier → Text → Text → Phase
  in_node : Option Under → Spot → Phase
  property : Slot → Identifier → Text → Text → Phase
  entry_slashdash : Option Under → Phase
  block_slashdash : Option Under → Phase
  kept : Option Kept → Phase
  kept_slashdash : Option Kept → Phase

-- an open block, with the nodes around it: of the current node, or a slashdashed one before or after the node's own
pub data Frame : Type 0 where
  in_block : Option Under → Text → Option Nodes → Frame
  in_dropped : Option Under → Option Nodes → Frame
  in_later : Option Kept → Option Nodes → Frame

-- the state of the machine: its phase, the nodes so far, the open blocks, and where the current place began
pub data State : Type 0 where
  at : Phase → Option Nodes → List Frame → Text → State

-- the start of the current place once an item begins: a new one if the item is kept
abbrev pub origin : {A : Type 0} → Option A → Text → Text → Text
origin None from t = from
origin (Some x) from t = t

-- the start of the current place after an item: t if the item is kept
abbrev pub moved : Slot → Text → Text → Text
moved no_name from t = from
moved (for_name leading start) from t = t
moved (no_value u) from t = from
moved (for_value u leading start k) from t = t

-- the slot of a node's name, if nodes are built
abbrev pub name_slot : Option Nodes → Text → Text → Slot
name_slot None leading start = no_name
name_slot (Some ns) leading start = for_name leading start

-- the slot of an entry's value, if the node is built
abbrev pub entry_slot : Option Under → Text → Text → Slot
entry_slot None leading start = no_value None
entry_slot (Some u) leading start = for_value u leading start None

-- the first if what the slot is for is kept, and the second if it is slashdashed
abbrev pub only : {A : Type 0} → Slot → A → A → A
only no_name x y = y
only (for_name leading start) x y = x
only (no_value u) x y = y
only (for_value u leading start k) x y = x

-- the text, or the name, if it is kept
abbrev pub kept_text : Slot → Text → Text
kept_text c t = only c t []

abbrev pub kept_name : Slot → Identifier → Identifier
kept_name c i = only c i (plain_identifier [])

-- the text before a block, if the node is built
abbrev pub text_before : Option Under → Text → Text
text_before None t = []
text_before (Some u) t = t

-- inside the `(` of a type, which ends at r
abbrev pub opened : Owner → Slot → Text → Phase
opened b c r = type_open b c (kept_text c r)

-- the slot of a value after its key
abbrev pub keyed : Slot → KeyParts → Slot
keyed (for_value u leading start k') k = for_value u leading start (Some k)
keyed c k = c

-- the node with one more entry
abbrev pub with_entry : Under → Entry → Under
with_entry u e = record u { entries = u.entries ++ (e ∷ []) }

-- the current node once its name, or the value of an entry, is in s before r
abbrev pub filled : Text → Slot → Option TypeParts → Value → Text → Text → Option Under
filled whole no_name y v s r = None
filled whole (for_name leading start) y (text v) s r = Some (record { leading = leading; start = start; ty = y; name = identifier_at whole v s r; entries = [] })
filled whole (for_name leading start) y _ s r = None
filled whole (no_value u) y v s r = u
filled whole (for_value u leading start k) y v s r = Some (with_entry u (entry_at (span_of whole start r) leading k y v (between s r)))

-- a node that ends where s begins
abbrev pub node_at : Text → Under → Children → Text → Text → Text → Text → Node
node_at whole u k before_children before_terminator end s = node (record {
  ty = type_of u.ty;
  name = u.name;
  entries = u.entries;
  format = Some (node_format u.leading (before_name u.ty) (after_name u.ty) (after_type u.ty) before_children before_terminator end []);
  span = span_of whole u.start s;
}) k

-- that node, if it is built
abbrev pub closed : Text → Option Under → Children → Text → Text → Text → Text → Option Node
closed whole None k before place end s = None
closed whole (Some u) k before place end s = Some (node_at whole u k before place end s)

-- the node with its block, if it is built
abbrev pub closed_kept : Text → Option Kept → Text → Text → Text → Option Node
closed_kept whole None place end s = None
closed_kept whole (Some x) place end s = closed whole (Some x.under) (children x.block) x.before place end s

-- the nodes, and one more
abbrev pub ended : Option Node → Option Nodes → Option Nodes
ended None l = l
ended (Some x) None = None
ended (Some x) (Some ns) = Some (join ns (first x none))

-- the nodes inside a block that opens: an empty list, if its node is built
abbrev pub inside : Option Under → Option Nodes
inside None = None
inside (Some u) = Some none

-- the nodes, and the text after them; without nodes it is the leading text, and s is what follows
abbrev pub content_at : Text → Nodes → Text → Text → Document
content_at whole none place s = document (Some (record { leading = place; trailing = [] })) (span_of whole s s) none
content_at whole (first n ns) place s = document (Some (record { leading = []; trailing = place })) (content_span (span_of whole s s) (first n ns)) (first n ns)

-- the node with the block of these nodes, if both are built
abbrev pub with_block : Text → Option Under → Text → Option Nodes → Text → Text → Option Kept
with_block whole None before l place s = None
with_block whole (Some u) before None place s = None
with_block whole (Some u) before (Some ns) place s = Some (record { under = u; before = before; block = content_at whole ns place s })

-- after the `}` that is in s before r
abbrev pub popped : Text → Option Nodes → List Frame → Text → Text → Text → Option State
popped whole l [] from s r = None
popped whole l (in_block u before m ∷ fs) from s r = Some (at (kept (with_block whole u before l (between from s) s)) m fs (origin u from r))
popped whole l (in_dropped u m ∷ fs) from s r = Some (at (in_node u later) m fs from)
popped whole l (in_later x m ∷ fs) from s r = Some (at (kept x) m fs from)

-- the spot after spaces
abbrev pub spaced_of : Spot → Spot
spaced_of (fresh o) = spaced o
spaced_of (spaced o) = spaced o
spaced_of later = later

-- after the `=` that follows a string
abbrev pub value_from : Spot → Text → Text → Option Phase
value_from (fresh (Some (pending c k a))) s r = Some (property c k (kept_text c (between a s)) (kept_text c r))
value_from (spaced (Some (pending c k a))) s r = Some (property c k (kept_text c (between a s)) (kept_text c r))
value_from _ s r = None

-- after the slot's type and its string or value
abbrev pub given : Text → Slot → Option TypeParts → Value → Option Pending → Option Nodes → List Frame → Text → Text → Text → State
given whole c y v o l fs from s r = at (in_node (filled whole c y v s r) (fresh o)) l fs (moved c from r)

-- after a string in the slot that may be a key
abbrev pub worded : Text → Slot → Text → Option Nodes → List Frame → Text → Text → Text → State
worded whole c v l fs from s r = given whole c None (text v) (Some (pending c (kept_name c (identifier_at whole v s r)) (kept_text c r))) l fs from s r

-- the type, if what follows its `)` begins at s
abbrev pub typed : Text → Identifier → Text → Text → Text → Option TypeParts
typed before i after a s = Some (record { name = i; before = before; after = after; following = between a s })

-- the control at a spot and in a phase
abbrev pub word_of : Option Pending → Word
word_of None = NoKey
word_of (Some w) = MayBeKey

abbrev pub spot_of : Spot → ControlSpot
spot_of (fresh o) = Fresh (word_of o)
spot_of (spaced o) = Spaced (word_of o)
spot_of later = Later

abbrev pub phase_of : Phase → ControlPhase
phase_of gap = Gap
phase_of node_slashdash = NodeSlashdash
phase_of (type_open b c a) = TypeOpen b
phase_of (type_name b c q i a) = TypeName b
phase_of (type_done b c q i d a) = TypeDone b
phase_of (in_node u p) = InNode (spot_of p)
phase_of (property c k b a) = Property
phase_of (entry_slashdash u) = EntrySlashdash
phase_of (block_slashdash u) = BlockSlashdash
phase_of (kept x) = KeptPhase
phase_of (kept_slashdash x) = KeptSlashdash

-- the phase after a token that is nothing for the tree, after which the control is in the phase q
abbrev pub skipped : Phase → ControlPhase → Phase
skipped gap NodeSlashdash = node_slashdash
skipped (in_node u p) BlockSlashdash = block_slashdash u
skipped (in_node u p) q = in_node u (spaced_of p)
skipped (kept x) KeptSlashdash = kept_slashdash x
skipped p q = p

-- the token k is this event, and is in s before r, in the text `whole`
abbrev pub acts : Text → State → Event → Token → Text → Text → Option State
acts whole (at p l fs from) (event.Skip q) k s r = Some (at (skipped p q) l fs from)
acts whole (at gap l fs from) event.Name (string v) s r = Some (given whole (name_slot l (between from s) s) None (text v) None l fs from s r)
acts whole (at gap l fs from) event.NameType k s r = Some (at (opened OfName (name_slot l (between from s) s) r) l fs from)
acts whole (at gap l fs from) event.GapClosing k s r = popped whole l fs from s r
acts whole (at node_slashdash l fs from) event.Name (string v) s r = Some (given whole no_name None (text v) None l fs from s r)
acts whole (at node_slashdash l fs from) event.NameType k s r = Some (at (opened OfName no_name r) l fs from)
acts whole (at (type_open b c a) l fs from) (event.TypeName o) (string v) s r = Some (at (type_name b c (kept_text c (between a s)) (kept_name c (identifier_at whole v s r)) (kept_text c r)) l fs from)
acts whole (at (type_name b c q i a) l fs from) (event.TypeEnd o) k s r = Some (at (type_done b c q i (kept_text c (between a s)) (kept_text c r)) l fs from)
acts whole (at (type_done b c q i d a) l fs from) event.TypedName j s r = option_map (λ v. given whole c (typed q i d a s) v None l fs from s r) (value_of j)
acts whole (at (type_done b c q i d a) l fs from) event.TypedValue j s r = option_map (λ v. given whole c (typed q i d a s) v None l fs from s r) (value_of j)
acts whole (at (property c k b a) l fs from) event.KeyedValue j s r = option_map (λ v. given whole (keyed c (record { name = k; before = b; following = between a s })) None v None l fs from s r) (value_of j)
acts whole (at (property c k b a) l fs from) event.KeyedType j s r = Some (at (opened OfValue (keyed c (record { name = k; before = b; following = between a s })) r) l fs from)
acts whole (at (in_node u p) l fs from) event.NodeEnd k s r = Some (at gap (ended (closed whole u no_children [] (between from s) (between s r) s) l) fs (origin u from r))
acts whole (at (in_node u p) l fs from) event.NodeClosing k s r = popped whole (ended (closed whole u no_children [] (between from s) [] s) l) fs (origin u from s) s r
acts whole (at (in_node u p) l fs from) (event.Opening f) k s r = Some (at gap (inside u) (in_block u (text_before u (between from s)) l ∷ fs) (origin u from r))
acts whole (at (in_node u p) l fs from) event.EntrySlashdash k s r = Some (at (entry_slashdash u) l fs from)
acts whole (at (in_node u p) l fs from) event.Word (string v) s r = Some (worded whole (entry_slot u (between from s) s) v l fs from s r)
acts whole (at (in_node u p) l fs from) event.Argument (value v) s r = Some (given whole (entry_slot u (between from s) s) None v None l fs from s r)
acts whole (at (in_node u p) l fs from) event.ValueType k s r = Some (at (opened OfValue (entry_slot u (between from s) s) r) l fs from)
acts whole (at (in_node u p) l fs from) event.Equals k s r = option_map (λ q. at q l fs from) (value_from p s r)
acts whole (at (entry_slashdash u) l fs from) event.Word (string v) s r = Some (worded whole (no_value u) v l fs from s r)
acts whole (at (entry_slashdash u) l fs from) event.Argument (value v) s r = Some (given whole (no_value u) None v None l fs from s r)
acts whole (at (entry_slashdash u) l fs from) event.ValueType k s r = Some (at (opened OfValue (no_value u) r) l fs from)
acts whole (at (entry_slashdash u) l fs from) (event.Opening f) k s r = Some (at gap None (in_dropped u l ∷ fs) from)
acts whole (at (block_slashdash u) l fs from) (event.Opening f) k s r = Some (at gap None (in_dropped u l ∷ fs) from)
acts whole (at (kept x) l fs from) event.KeptEnd k s r = Some (at gap (ended (closed_kept whole x (between from s) (between s r) s) l) fs (origin x from r))
acts whole (at (kept x) l fs from) event.KeptClosing k s r = popped whole (ended (closed_kept whole x (between from s) [] s) l) fs (origin x from s) s r
acts whole (at (kept_slashdash x) l fs from) (event.Opening f) k s r = Some (at gap None (in_later x l ∷ fs) from)
acts _ _ _ _ _ _ = None

-- the token k is in s before r, in the text `whole`
abbrev pub step : Text → State → Token → Text → Text → Option State
step whole (at p l fs from) k s r = option_and_then (λ x. acts whole (at p l fs from) x k s r) (event_of (phase_of p) k)

-- the document at the end of the text: no block may be open
abbrev pub at_end : Text → Option Nodes → List Frame → Text → Option Document
at_end whole l (f ∷ fs) from = None
at_end whole None [] from = None
at_end whole (Some ns) [] from = Some (content_at whole ns (between from []) [])

-- what the machine returns at the end of the text
abbrev pub finish : Text → State → Option Document
finish whole (at gap l fs from) = at_end whole l fs from
finish whole (at (in_node u p) l fs from) = at_end whole (ended (closed whole u no_children [] (between from []) [] []) l) fs (origin u from [])
finish whole (at (kept x) l fs from) = at_end whole (ended (closed_kept whole x (between from []) [] []) l) fs (origin x from [])
finish whole _ = None

-- before the first token
abbrev pub initial : Text → State
initial s = at gap (Some none) [] s

-- from the state on, the text is read to its end, and the result is d
pub data Runs (whole : Text) (d : Document) : State → Text → Type 0 where
  stops : {st : State} → finish whole st ≡ Some d → Runs whole d st []
  reads : {st st' : State} {s r : Text} {k : Token} → BeginsToken s k r → step whole st k s r ≡ Some st' → Runs whole d st' r → Runs whole d st s

-- the machine's result on a text, which it reads after a U+FEFF if the text begins with one
pub data AnswersDocument : Text → Document → Type 0 where
  no_bom : {t : Text} {d : Document} → Runs t d (initial t) t → AnswersDocument t d
  after_bom : {t : Text} {d : Document} → Runs (0xFEFF ∷ t) d (initial t) t → AnswersDocument (0xFEFF ∷ t) (with_bom d)
