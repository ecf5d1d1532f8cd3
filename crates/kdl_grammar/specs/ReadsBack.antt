-- Parts of a document that read back wherever they may be: what each prints is derived with its data, before each rest that may follow it.
use Rattle.std.specs.Prelude.{◌≡◌, ◌⊎◌, ℕ, true, List, [], ◌∷◌, ◌++◌, Option, Some, None, option_map}
use Rattle.std.specs.List.{All}
use Rattle.kdl_text.specs.Chars.{Text}
use Rattle.kdl_text.specs.Trivia.{ValueEnd}
use Rattle.kdl_text.specs.declared.span.SourceSpan.{SourceSpan}
use Rattle.kdl_value.specs.Data.{Value}
use Rattle.kdl_value.specs.Print.{print_value}
use Rattle.kdl_entry.specs.Data as data'
use Rattle.kdl_entry.specs.Entries.{IsPlainValue}
use Rattle.kdl_entry.specs.Print.{print_identifier, print_type, print_key}
use Rattle.kdl_entry.specs.Tree.{Entry, EntryFormat}
use Rattle.kdl_grammar.specs.Data as nodes'
use Rattle.kdl_grammar.specs.Grammar.{Terminator, IsNode, AfterName, Gap, AreNodes}
use Rattle.kdl_grammar.specs.Places.{BeforeChildren, AfterChildren}
use Rattle.kdl_grammar.specs.Print.{leading_text, trailing_text, spaces}
use Rattle.kdl_grammar.specs.Tree.{NodeFormat, DocumentFormat, Head, Node, node, Children, no_children, children, Document, document, Nodes, none, first}

-- the texts that may follow a piece
pub data Rests : Type 0 where
  -- any text
  Anything : Rests
  -- only the empty text
  TextEnd : Rests
  -- the `}` of a block with this format, after the indentation that a block without a format prints
  BlockEnd : Option DocumentFormat → Rests

-- the text r may follow
abbrev pub MayFollow : Rests → Text → Type 0
MayFollow Anything r = Unit {0}
MayFollow TextEnd r = r ≡ []
MayFollow (BlockEnd None) r = (n : ℕ) × (t : Text) × (r ≡ spaces n ++ (125 ∷ t))
MayFollow (BlockEnd (Some f)) r = (t : Text) × (r ≡ 125 ∷ t)

-- what an entry in a node prints before its value, and its value
abbrev pub front_text : Entry → Option EntryFormat → Text
front_text e None = 32 ∷ print_key e.name [] [] ++ print_type e.ty [] []
front_text e (Some f) = f.leading ++ print_key e.name f.after_key f.after_eq ++ print_type e.ty f.before_ty_name f.after_ty_name ++ f.after_ty

abbrev pub value_text : Entry → Option EntryFormat → Text
value_text e None = print_value e.value
value_text e (Some f) = f.value_repr

-- what it prints after its value
abbrev pub entry_trailing : Option EntryFormat → Text
entry_trailing None = []
entry_trailing (Some f) = f.trailing

-- an entry with another value
abbrev pub entry_with : Entry → Value → data'.Entry
entry_with e v = record { key = option_map (λ i. i.value) e.name; ty = option_map (λ i. i.value) e.ty; value = v }

-- an entry in a node: its front comes before each value, its value before each value end, and nothing follows its value
pub record EntryReads (e : Entry) : Type 0 where
  pub begins : (r : Text) → ValueEnd true (front_text e e.format ++ r)
  pub front : {r u t : Text} {v : Value} {es : List data'.Entry} {k : nodes'.Children} → IsPlainValue true r u v → AfterName true u t es k
      → AfterName true (front_text e e.format ++ r) t (entry_with e v ∷ es) k
  pub value : {r : Text} → ValueEnd true r → IsPlainValue true (value_text e e.format ++ r) r e.value
  pub trailing : entry_trailing e.format ≡ []

-- what a node prints from its type to its name
abbrev pub name_text : Head → NodeFormat → Text
name_text h f = print_type h.ty f.before_ty_name f.after_ty_name ++ f.after_ty ++ print_identifier h.name

-- a node up to its last entry: a gap, its type and name, its entries
pub record HeadReads (h : Head) (f : NodeFormat) : Type 0 where
  pub leading : (r : Text) → Gap true (f.leading ++ (name_text h f ++ r)) (name_text h f ++ r)
  pub name : {r t : Text} {es : List data'.Entry} {k : nodes'.Children} → ValueEnd true r → AfterName true r t es k
      → IsNode true (name_text h f ++ r) t (nodes'.node (option_map (λ i. i.value) h.ty) h.name.value es k)
  pub entries : All EntryReads h.entries

-- the terminator of a node and what it prints after that
abbrev pub terminator_text : NodeFormat → Text
terminator_text f = f.terminator ++ f.trailing

-- where nodes end: at the end of the text, or before a `}`
abbrev pub NodesEnd : Text → Type 0
NodesEnd s = (s ≡ []) ⊎ ((t : Text) × (s ≡ 125 ∷ t))

-- before the rests P a text is a terminator, and adds nothing to the nodes that follow
abbrev pub Terminates : Rests → Text → Type 0
Terminates P t = (r s : Text) (xs : nodes'.Nodes) → MayFollow P r → NodesEnd s → AreNodes true r s xs → (v : Text) × Terminator (t ++ r) v × AreNodes true v s xs

-- before whatever follows, a text adds nothing to the nodes there
abbrev pub AddsNothing : Text → Type 0
AddsNothing t = (r s : Text) (xs : nodes'.Nodes) → NodesEnd s → AreNodes true r s xs → AreNodes true (t ++ r) s xs

-- before the rests P a text is a gap
abbrev pub IsGapBefore : Rests → Text → Type 0
IsGapBefore P t = (r : Text) → MayFollow P r → Gap true (t ++ r) r

-- what may come before the terminator: of a node without a block, and after a block
abbrev pub BeforeTerminator : Children → Text → Text → Type 0
BeforeTerminator no_children = BeforeChildren
BeforeTerminator (children d) = AfterChildren

-- the end of a node, before the rests P
pub record EndReads (P : Rests) (k : Children) (f : NodeFormat) : Type 0 where
  pub place : (r : Text) {v : Text} → MayFollow P r → Terminator (terminator_text f ++ r) v → BeforeTerminator k (f.before_terminator ++ (terminator_text f ++ r)) (terminator_text f ++ r)
  pub terminator : Terminates P (terminator_text f)

-- what may follow the last node of a document, before the rests P: before a trailing text it ends by itself
abbrev pub last_rests : Text → Rests → Rests
last_rests [] P = P
last_rests (c ∷ t) P = Anything

mutual
  -- a node with a format, before the rests P
  pub data NodeReads : Rests → Node → Type 0 where
    reads : {P : Rests} {h : Head} {f : NodeFormat} {k : Children} → h.format ≡ Some f → HeadReads h f → ChildrenRead f k → EndReads P k f → NodeReads P (node h k)

  -- the block of a node, if it has one
  pub data ChildrenRead : NodeFormat → Children → Type 0 where
    no_block : {f : NodeFormat} → ChildrenRead f no_children
    a_block : {f : NodeFormat} {d : Document} → ((t : Text) → BeforeChildren (f.before_children ++ (123 ∷ t)) (123 ∷ t)) → BlockReads d → ChildrenRead f (children d)

  -- nodes: each but the last ends by itself, and the last ends before the rests P
  pub data NodesRead : Rests → Nodes → Type 0 where
    no_node : {P : Rests} → NodesRead P none
    last_node : {P : Rests} {n : Node} → NodeReads P n → NodesRead P (first n none)
    next_node : {P : Rests} {n m : Node} {ns : Nodes} → NodeReads Anything n → NodesRead P (first m ns) → NodesRead P (first n (first m ns))

  -- nodes with the texts around them, before the rests P; without nodes only one text may come before the end
  pub data ContentReads : Rests → Text → Text → Nodes → Type 0 where
    one_text : {P : Rests} {leading : Text} → IsGapBefore P leading → ContentReads P leading [] none
    two_texts : {P : Rests} {leading trailing : Text} → AddsNothing leading → IsGapBefore P trailing → ContentReads P leading trailing none
    with_nodes : {P : Rests} {leading trailing : Text} {n : Node} {ns : Nodes} → AddsNothing leading → NodesRead (last_rests trailing P) (first n ns) → IsGapBefore P trailing
        → ContentReads P leading trailing (first n ns)

  -- a document that is the block of a node
  pub data BlockReads : Document → Type 0 where
    block : {o : Option DocumentFormat} {ns : Nodes} {at : SourceSpan} → ContentReads (BlockEnd o) (leading_text o) (trailing_text o) ns → BlockReads (document o at ns)

-- a document that is a whole text, with an optional U+FEFF before it
pub data DocumentReads : Document → Type 0 where
  no_bom : {o : Option DocumentFormat} {ns : Nodes} {at : SourceSpan} → ContentReads TextEnd (leading_text o) (trailing_text o) ns → DocumentReads (document o at ns)
  after_bom : {o : Option DocumentFormat} {ns : Nodes} {at : SourceSpan} {leading : Text} → leading_text o ≡ 0xFEFF ∷ leading → ContentReads TextEnd leading (trailing_text o) ns → DocumentReads (document o at ns)
