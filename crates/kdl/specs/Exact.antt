-- Nodes inserted among others without superfluous newlines: each part gets the newlines that it lacks, and no more.
use Rattle.std.specs.Prelude.{◌≡◌, ℕ, zero, suc, true, ◌+◌, ◌<◌, ◌≤◌, [], ◌∷◌, ◌++◌, length, Option, Some, None, slice_get}
use Rattle.kdl_text.specs.Chars.{Text}
use Rattle.kdl_layout.specs.Kept.{without_bom}
use Rattle.kdl_grammar.specs.Grammar.{Gap}
use Rattle.kdl_grammar.specs.Places.{BeforeChildren}
use Rattle.kdl_grammar.specs.Print.{leading_text, trailing_text}
use Rattle.kdl_grammar.specs.ReadsBack.{Rests, Anything, BlockEnd, AddsNothing, NodeReads, terminator_text}
use Rattle.kdl_grammar.specs.Tree.{DocumentFormat, Node, node, NodeFormat}
use Rattle.kdl_parts.specs.Formats.{node_texts}
use Rattle.kdl_parts.specs.declared.format.KdlNodeFormat.{KdlNodeFormat}
use Rattle.kdl.specs.Change.{with_children, with_format}
use Rattle.kdl.specs.Cleared.{new_document}
use Rattle.kdl.specs.DocumentLookups.{nodes_of}
use Rattle.kdl.specs.Fields.{node_format_of}
use Rattle.kdl.specs.Nodes.{IsPut, WithNewlines, format_or_printed, newlines, text_from, text_up_to, texts_around}
use Rattle.kdl.specs.ReadsBack.{NodeEnds}
use Rattle.kdl.specs.Tree.{document_prints, document_tree, node_prints, node_tree}
use Rattle.kdl.specs.declared.document.KdlDocument.{KdlDocument}
use Rattle.kdl.specs.declared.node.KdlNode.{KdlNode, out-KdlNode}

-- a format with b more newlines before its terminator, and e more at its end
abbrev pub lengthened : ℕ → ℕ → NodeFormat → NodeFormat
lengthened b e f = record f { before_terminator = f.before_terminator ++ newlines b; trailing = f.trailing ++ newlines e }

-- a node with b and e more newlines; without a format, they are added to what it prints
abbrev pub with_more : ℕ → ℕ → Node → Node
with_more b e (node h c) = node (record h { format = Some (lengthened b e (format_or_printed h)) }) c

-- with fewer than k more newlines, before its terminator and at its end, the node does not end by itself
abbrev pub FewerFail : ℕ → KdlNode → Type 0
FewerFail k n = (b e : ℕ) → b + e < k → NodeReads Anything (with_more b e (node_tree n)) → ⊥

-- before any text a node lacks k newlines: with them it ends by itself, and with fewer it does not. It lacks none if it ends so already, and one if it has no format
pub record LacksBeforeText (k : ℕ) (n : KdlNode) : Type 0 where
  pub enough : (P : Rests) → NodeReads P (node_tree n) → (m : Node) × WithNewlines k (node_tree n) m × NodeReads Anything m
  pub fewer : FewerFail k n
  pub none : NodeEnds n → k ≡ 0
  pub formless : node_format_of n ≡ None → k ≡ 1

-- a node has a format that prints no terminator
abbrev pub HasOpenEnd : KdlNode → Type 0
HasOpenEnd n = (f : NodeFormat) × (node_texts (node_format_of n) ≡ Some f) × (terminator_text f ≡ [])

-- before the `}` of a block a node lacks k newlines: the same, without the one that would be its terminator
pub record LacksBeforeBrace (k : ℕ) (n : KdlNode) : Type 0 where
  pub enough : (P : Rests) (f : DocumentFormat) → NodeReads P (node_tree n) → (m : Node) × WithNewlines k (node_tree n) m × NodeReads (BlockEnd (Some f)) m
  pub fewer : FewerFail k n
  pub unended : HasOpenEnd n → FewerFail (k + 1) n
  pub none : NodeEnds n → k ≡ 0
  pub formless : node_format_of n ≡ None → k ≡ 0

-- before nodes a text lacks k newlines: with them it adds nothing to the nodes, and with fewer it does
pub record GapLacks (k : ℕ) (t : Text) : Type 0 where
  pub enough : Gap true t [] → AddsNothing (t ++ newlines k)
  pub fewer : (m : ℕ) → m < k → AddsNothing (t ++ newlines m) → ⊥

-- what is before the place i lacks k newlines: the node there, or the text before the first one
abbrev pub LacksAt : ℕ → ℕ → KdlDocument → Type 0
LacksAt zero k d = GapLacks k (without_bom (leading_text (texts_around d)))
LacksAt (suc i) k d = (n : KdlNode) → slice_get (nodes_of d) i ≡ Some n → LacksBeforeText k n

-- nothing of the document is after the place i: neither a node nor a text
abbrev pub IsAtEnd : ℕ → KdlDocument → Type 0
IsAtEnd i d = (length (nodes_of d) ≤ i) × (trailing_text (texts_around d) ≡ [])

-- a node at the place i of a text d lacks j newlines: none at the end
pub record LacksInText (i j : ℕ) (n : KdlNode) (d : KdlDocument) : Type 0 where
  pub at_end : IsAtEnd i d → j ≡ 0
  pub before_text : (IsAtEnd i d → ⊥) → LacksBeforeText j n

-- the same of a block d: its `}` follows the last node, after an indentation if d has no format
pub record LacksInBlock (i j : ℕ) (n : KdlNode) (d : KdlDocument) : Type 0 where
  pub at_brace : IsAtEnd i d → (f : DocumentFormat) → texts_around d ≡ Some f → LacksBeforeBrace j n
  pub before_text : (IsAtEnd i d → texts_around d ≡ None) → LacksBeforeText j n

-- e is the text d with the node n at the place i, and prints exactly the newlines more that are lacking
pub record IsPutExactly (i : ℕ) (n : KdlNode) (d e : KdlDocument) : Type 0 where
  pub put : IsPut i (node_tree n) d e
  pub prints : document_prints e ≡ text_up_to i d 0 ++ newlines put.k ++ node_prints n ++ newlines put.j ++ text_from i d 0
  pub before : LacksAt i put.k d
  pub own : LacksInText i put.j n d

-- the same of a block d
pub record IsPutInBlock (i : ℕ) (n : KdlNode) (d e : KdlDocument) : Type 0 where
  pub put : IsPut i (node_tree n) d e
  pub before : LacksAt i put.k d
  pub own : LacksInBlock i put.j n d

-- a text may be before the terminator of a node without a block, if that is a newline
abbrev pub IsBeforeNewline : Text → Type 0
IsBeforeNewline t = (r : Text) → BeforeChildren (t ++ (10 ∷ r)) (10 ∷ r)

-- what is before a new block: the text before the terminator, and the newline that it lacks
abbrev pub BlockBegunExactly : Option NodeFormat → Option NodeFormat → Type 0
BlockBegunExactly None g = g ≡ None
BlockBegunExactly (Some f) g = (k : ℕ) × (k ≤ 1) × (g ≡ Some (record f { before_children = f.before_terminator ++ newlines k; before_terminator = [] }))
    × ((m : ℕ) → m < k → IsBeforeNewline (f.before_terminator ++ newlines m) → ⊥)

-- m' is m with the node n at the place i of its block, which is the given one, or else a new one, and exactly the newlines more that are lacking
abbrev pub ChildPutExactlyIn : Option KdlDocument → ℕ → KdlNode → KdlNode → KdlNode → Type 0
ChildPutExactlyIn None i n m m' = (d : KdlDocument) × (e : KdlDocument) × (g : Option KdlNodeFormat) × (document_tree d ≡ new_document) × IsPutInBlock 0 n d e
    × BlockBegunExactly (node_texts (node_format_of m)) (node_texts g) × (m' ≡ with_children (with_format m g) (Some e))
ChildPutExactlyIn (Some d) i n m m' = (e : KdlDocument) × IsPutInBlock i n d e × (m' ≡ with_children m (Some e))

-- the same of its own block
abbrev pub ChildPutExactly : ℕ → KdlNode → KdlNode → KdlNode → Type 0
ChildPutExactly i n m m' = ChildPutExactlyIn (out-KdlNode m).children i n m m'

-- what is before the place i ends by itself: the node there, or the text before the first one
abbrev pub EndsAt : ℕ → KdlDocument → Type 0
EndsAt zero d = AddsNothing (without_bom (leading_text (texts_around d)))
EndsAt (suc i) d = (n : KdlNode) → slice_get (nodes_of d) i ≡ Some n → NodeEnds n

-- nodes may follow what a document prints: its last node ends by itself, and no text is after it
pub record NodesMayFollow (d : KdlDocument) : Type 0 where
  pub ends : EndsAt (length (nodes_of d)) d
  pub trailing : trailing_text (texts_around d) ≡ []
