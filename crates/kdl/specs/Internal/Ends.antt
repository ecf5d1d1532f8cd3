-- The newlines that nodes lack at their ends.
use Rattle.std.specs.List.{insert}
use Rattle.std.specs.Prelude.{◌≡◌, ◌⊎◌, ℕ, Bool, true, false, ◌+◌, ◌<◌, ◌≤◌, [], ◌∷◌, ◌++◌, Option, Some, None, option_map, slice_get, slice_set, unwrap_or}
use Rattle.kdl_text.specs.Chars.{Text}
use Rattle.kdl_layout.specs.Kept.{without_bom}
use Rattle.kdl_grammar.specs.Grammar.{Terminator, Gap}
use Rattle.kdl_grammar.specs.Places.{BeforeChildren}
use Rattle.kdl_grammar.specs.Print.{leading_text}
use Rattle.kdl_grammar.specs.ReadsBack.{Rests, Anything, TextEnd, BlockEnd, Terminates, AddsNothing, BeforeTerminator, EndReads, NodeReads, terminator_text}
use Rattle.kdl_grammar.specs.Tree.{DocumentFormat, NodeFormat, Children, no_children, children}
use Rattle.kdl_parts.specs.Formats.{node_texts}
use Rattle.kdl_parts.specs.declared.format.KdlNodeFormat.{KdlNodeFormat}
use Rattle.kdl.specs.Change.{with_format, with_nodes}
use Rattle.kdl.specs.Cleared.{new_document}
use Rattle.kdl.specs.DocumentLookups.{nodes_of}
use Rattle.kdl.specs.Exact.{IsAtEnd, IsBeforeNewline, IsPutExactly, IsPutInBlock, LacksBeforeBrace, LacksBeforeText, lengthened}
use Rattle.kdl.specs.Nodes.{EndsWith, LeadsWith, WithNewlines, newlines, texts_around}
use Rattle.kdl.specs.ReadsBack.{BlockReadsBack, DocumentReadsBack}
use Rattle.kdl.specs.Tree.{node_tree}
use Rattle.kdl.specs.declared.document.KdlDocument.{KdlDocument, out-KdlDocument}
use Rattle.kdl.specs.declared.ends.Rest.{Rest}
use Rattle.kdl.specs.declared.node.KdlNode.{KdlNode, out-KdlNode}

-- newlines at the end of a format: of its terminator, or of the text after that
abbrev pub end_newlines : Text → ℕ → NodeFormat → NodeFormat
end_newlines [] e f = record f { terminator = f.terminator ++ newlines e }
end_newlines (c ∷ s) e f = record f { trailing = f.trailing ++ newlines e }

-- newlines before the terminator of a format, and at its end
abbrev pub with_newlines : NodeFormat → ℕ → ℕ → NodeFormat
with_newlines f b e = end_newlines f.trailing e (record f { before_terminator = f.before_terminator ++ newlines b })

-- b newlines before the terminator and e at the end: at most two, and those before the terminator only if no text follows them
pub record Lacks (f : NodeFormat) (b e : ℕ) : Type 0 where
  pub few : b + e ≤ 2
  pub joins : (b ≡ 0) ⊎ ((f.terminator ≡ []) × (f.trailing ≡ []))

-- the children of a node with a block, or without one
abbrev pub block_if : Bool → Children
block_if true = children new_document
block_if false = no_children

-- t is a text before an empty terminator; with b more newlines it is one before every terminator
abbrev pub PlaceSays : Children → Text → ℕ → Type 0
PlaceSays k t b = BeforeTerminator k t [] → (r v : Text) → Terminator r v → BeforeTerminator k ((t ++ newlines b) ++ r) r

-- t is a terminator and a gap; with e more newlines it ends the node before whatever follows
abbrev pub EndSays : Text → ℕ → Type 0
EndSays t e = (v : Text) → Terminator t v → Gap true v [] → Terminates Anything (t ++ newlines e)

-- t is a text between nodes; with n more newlines it stays one before whatever follows
abbrev pub GapSays : Text → ℕ → Type 0
GapSays t n = Gap true t [] → AddsNothing (t ++ newlines n)

-- if the end of a node by the format f reads back before some rests, that by g does before what follows; nothing is said about the end of the text
abbrev pub EndsReadAs : Rest → Children → NodeFormat → NodeFormat → Type 0
EndsReadAs Rest.End k f g = Unit {0}
EndsReadAs Rest.Brace k f g = (P : Rests) (b : DocumentFormat) → EndReads P k f → EndReads (BlockEnd (Some b)) k g
EndsReadAs Rest.Text k f g = (P : Rests) → EndReads P k f → EndReads Anything k g

-- if n reads back before some rests, m does before what follows; at the end of the text m is n itself
abbrev pub EndsAs : Rest → KdlNode → KdlNode → Type 0
EndsAs Rest.End n m = m ≡ n
EndsAs Rest.Brace n m = (P : Rests) (b : DocumentFormat) → NodeReads P (node_tree n) → NodeReads (BlockEnd (Some b)) (node_tree m)
EndsAs Rest.Text n m = (P : Rests) → NodeReads P (node_tree n) → NodeReads Anything (node_tree m)

-- the node with the format, if one is given
abbrev pub end_with : Option KdlNodeFormat → KdlNode → KdlNode
end_with None n = n
end_with (Some f) n = with_format n (Some f)

-- a format with another leading text
abbrev pub lead_with : Text → DocumentFormat → DocumentFormat
lead_with t f = record f { leading = t }

abbrev pub led_with : Option Text → Option DocumentFormat → Option DocumentFormat
led_with None o = o
led_with (Some t) o = option_map (lead_with t) o

-- the given text, or else the text before the terminator of the format, may be before a block, if the latter may be alone before the terminator
abbrev pub BlockSays : Option NodeFormat → Option Text → Type 0
BlockSays o t = (f : NodeFormat) → o ≡ Some f → BeforeChildren f.before_terminator [] → (s : Text) → BeforeChildren (unwrap_or t f.before_terminator ++ (123 ∷ s)) (123 ∷ s)

-- f with the given text before the block, or with its own text before the terminator if none is given
abbrev pub block_format : Option Text → NodeFormat → NodeFormat
block_format o f = record f { before_children = unwrap_or o f.before_terminator; before_terminator = [] }

-- m' is m with such a format, and all else unchanged
abbrev pub BlockBegins : Option Text → KdlNode → KdlNode → Type 0
BlockBegins o m m' = (g : Option KdlNodeFormat) × (m' ≡ with_format m g) × (node_texts g ≡ option_map (block_format o) (node_texts (out-KdlNode m).format))

-- the document that this follows is a whole text; else it is a block
abbrev pub is_text : Rest → Bool
is_text Rest.End = true
is_text rest = false

-- what may follow the content of a document that is a whole text, or a block
abbrev pub rests_after : Bool → Option DocumentFormat → Rests
rests_after true o = TextEnd
rests_after false o = BlockEnd o

-- the document reads back, as a whole text or as a block
abbrev pub ReadsIn : Bool → KdlDocument → Type 0
ReadsIn true d = DocumentReadsBack d
ReadsIn false d = BlockReadsBack d

-- what follows a node that is inserted at the place i, in a whole text or in a block
abbrev pub IsRestAt : Bool → ℕ → KdlDocument → Rest → Type 0
IsRestAt b i d Rest.End = (b ≡ true) × IsAtEnd i d
IsRestAt b i d Rest.Brace = (b ≡ false) × (f : DocumentFormat) × (texts_around d ≡ Some f) × IsAtEnd i d
IsRestAt b i d Rest.Text = IsAtEnd i d → (b ≡ false) × (texts_around d ≡ None)

-- one newline if one is lacking, and else none
abbrev pub newline_count : Option Bool → ℕ
newline_count (Some true) = 1
newline_count o = 0

-- n newlines are lacking, at most that many: with n newlines a text does what it has to, and with fewer it does not
pub record IsLacking (most : ℕ) (Says Fewest : ℕ → Type 0) (n : ℕ) : Type 0 where
  pub few : n ≤ most
  pub says : Says n
  pub fewest : Fewest n

-- with fewer newlines a text between nodes adds something to them
abbrev pub GapFewest : Text → ℕ → Type 0
GapFewest t n = (m : ℕ) → m < n → AddsNothing (t ++ newlines m) → ⊥

-- with fewer newlines a text may not be before a terminator that is a newline
abbrev pub PlaceFewest : Children → Text → ℕ → Type 0
PlaceFewest c t n = (m : ℕ) → m < n → ((r : Text) → BeforeTerminator c ((t ++ newlines m) ++ (10 ∷ r)) (10 ∷ r)) → ⊥

-- with fewer newlines a terminator and what is after it do not end the node before whatever follows
abbrev pub EndFewest : Text → ℕ → Type 0
EndFewest t n = (m : ℕ) → m < n → Terminates Anything (t ++ newlines m) → ⊥

-- with fewer newlines, before its terminator and at its end, a format does not end a node before whatever follows
abbrev pub FormatFewest : Children → NodeFormat → ℕ → Type 0
FormatFewest c f k = (b e : ℕ) → b + e < k → EndReads Anything c (lengthened b e f) → ⊥

-- the same before what follows: before a `}` an empty terminator does
abbrev pub FewestBefore : Rest → Children → NodeFormat → ℕ → Type 0
FewestBefore Rest.End c f k = Unit {0}
FewestBefore Rest.Brace c f k = FormatFewest c f k × (terminator_text f ≡ [] → FormatFewest c f (k + 1))
FewestBefore Rest.Text c f k = FormatFewest c f k

-- the format in place of f, if there is one, has k more newlines at its end
abbrev pub IsEndedBy : ℕ → NodeFormat → Option NodeFormat → Type 0
IsEndedBy k f None = k ≡ 0
IsEndedBy k f (Some g) = (0 < k) × (k ≤ 2) × EndsWith k f g

-- before what follows these newlines are the fewest
abbrev pub IsEndedExactly : Rest → Children → NodeFormat → Option NodeFormat → Type 0
IsEndedExactly rest c f o = (k : ℕ) × IsEndedBy k f o × FewestBefore rest c f k

-- how many newlines a node without a format lacks
abbrev pub formless_count : Rest → ℕ
formless_count Rest.Text = 1
formless_count rest = 0

-- of a node with the format, if any, and else with what it prints without one
abbrev pub IsNodeEnded : Rest → Children → Option NodeFormat → NodeFormat → Option NodeFormat → Type 0
IsNodeEnded rest c None f o = IsEndedBy (formless_count rest) f o
IsNodeEnded rest c (Some g) f o = IsEndedExactly rest c g o

-- before what follows a node lacks k newlines, and no fewer
abbrev pub LacksBefore : Rest → ℕ → KdlNode → Type 0
LacksBefore Rest.End k n = k ≡ 0
LacksBefore Rest.Brace k n = LacksBeforeBrace k n
LacksBefore Rest.Text k n = LacksBeforeText k n

-- with the format, if there is one, the node has exactly the newlines more that it lacks
abbrev pub EndsExactly : Rest → KdlNode → Option KdlNodeFormat → Type 0
EndsExactly rest n o = (k : ℕ) × (k ≤ 2) × WithNewlines k (node_tree n) (node_tree (end_with o n)) × LacksBefore rest k n

-- so has the leading text, with the one in its place if there is one
abbrev pub LeadsExactly : Option DocumentFormat → Option Text → Type 0
LeadsExactly o l = (k : ℕ) × (k ≤ 2) × LeadsWith k o (led_with l o) × GapSays (without_bom (leading_text o)) k × GapFewest (without_bom (leading_text o)) k

-- e is d with the node n after the one at i, which has exactly the newlines more that it lacked
pub record PutAfter (i : ℕ) (n : KdlNode) (d e : KdlDocument) : Type 0 where
  pub last : KdlNode
  pub format : Option KdlNodeFormat
  pub there : slice_get (nodes_of d) i ≡ Some last
  pub exact : EndsExactly Rest.Text last format
  pub nodes : nodes_of e ≡ insert (slice_set (nodes_of d) i (end_with format last)) (i + 1) n
  pub rest : e ≡ with_nodes d (out-KdlDocument e).nodes
  pub reads : EndsAs Rest.Text last (end_with format last)

-- e is d with the node n before the others, after the leading text, which has exactly the newlines more that it lacked
pub record PutFirst (n : KdlNode) (d e : KdlDocument) : Type 0 where
  pub leading : Option Text
  pub exact : LeadsExactly (texts_around d) leading
  pub texts : texts_around e ≡ led_with leading (texts_around d)
  pub nodes : nodes_of e ≡ insert (nodes_of d) 0 n
  pub span : (out-KdlDocument e).span ≡ (out-KdlDocument d).span

-- a node is inserted at i, in a text or a block
abbrev pub PutExactly : Bool → ℕ → KdlNode → KdlDocument → KdlDocument → Type 0
PutExactly true = IsPutExactly
PutExactly false = IsPutInBlock

-- the text before a new block, if it differs from the text before the terminator: that text, which may not be before a newline, with one newline
abbrev pub BeginsFewest : Option NodeFormat → Option Text → Type 0
BeginsFewest o None = Unit {0}
BeginsFewest o (Some t) = (f : NodeFormat) × (o ≡ Some f) × (t ≡ f.before_terminator ++ newlines 1) × (IsBeforeNewline f.before_terminator → ⊥)
