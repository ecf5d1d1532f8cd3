-- How far layout has come while some blocks are open.
use Rattle.std.specs.Prelude.{◌≡◌, ℕ, zero, suc, ◌+◌, ◌<◌, Bool, true, false, ◌&&◌, List, [], ◌∷◌, map, drop, Option, None, Some, option_map, length}
use Rattle.kdl_value.specs.Tree.{text_of}
use Rattle.kdl_grammar.specs.ReadsBack.{Rests, NodeReads, NodesRead}
use Rattle.kdl_grammar.specs.Tree.{DocumentFormat, NodeFormat, Head, Node, node, node_data, Children, no_children, children, children_of, document, listed_nodes}
use Rattle.kdl_parts.specs.Formats.{document_format_tree, node_format_tree}
use Rattle.kdl_layout.specs.Config.{IndentsBySpaces, Settings, indentation, keeping, settings}
use Rattle.kdl_layout.specs.KeptForm.{NodeKeepsReading, NodesKeepReading}
use Rattle.kdl_layout.specs.OneLine.{IsLaidNode, braces_in_line, formats_in_line, is_on_one_line, one_lined_children}
use Rattle.kdl_layout.specs.Respelled.{AreRespelledNodes}
use Rattle.kdl_layout.specs.Spaced.{IsSpacedChildren, PassesNode}
use Rattle.kdl_layout.specs.WellFormed.{AreWellFormed, IsWellFormedNode}
use Rattle.kdl_layout.specs.declared.blank.Before.{Before}
use Rattle.kdl_layout.specs.declared.config.Layout.{Layout}
use Rattle.kdl.specs.Internal.Count.{count_left}
use Rattle.kdl.specs.Iterators.{nodes_in}
use Rattle.kdl.specs.Layout.{DocumentSpaced}
use Rattle.kdl.specs.Tree.{document_says, document_tree, head_tree, node_tree, nodes_tree, document_of}
use Rattle.kdl.specs.declared.node.KdlNode.{KdlNode}
use Rattle.kdl.specs.declared.document.KdlDocument.{KdlDocument}
use Rattle.kdl.specs.declared.document.KdlDocument.TheViews.{out-KdlDocument, out-KdlNode}
use Rattle.kdl.specs.declared.layout.Around.{Around}
use Rattle.kdl.specs.declared.layout.LayoutFrame.{LayoutFrame}

-- a block, with other nodes in it
abbrev pub filled_block : Option KdlDocument → List Node → Children
filled_block o ns = children_of (option_map (λ d. document_of d ns) o)

-- a node, with other nodes in its block
abbrev pub filled : KdlNode → List Node → Node
filled n ns = node (head_tree (out-KdlNode n)) (filled_block (out-KdlNode n).children ns)

-- children, with other texts around their nodes
abbrev pub with_texts : Option DocumentFormat → Children → Children
with_texts g no_children = no_children
with_texts g (children (document f at ns)) = children (document g at ns)

-- a node, with other texts around the nodes in its block
abbrev pub with_braces : Option DocumentFormat → Node → Node
with_braces g (node h k) = node h (with_texts g k)

-- a node, with another format
abbrev pub put_format : NodeFormat → Node → Node
put_format f (node h k) = node (record h { format = Some f }) k

-- nodes, with other formats, as far as there are any
abbrev pub with_formats : List NodeFormat → List Node → List Node
with_formats fs [] = []
with_formats [] (n ∷ ns) = n ∷ ns
with_formats (f ∷ fs) (n ∷ ns) = put_format f n ∷ with_formats fs ns

-- the texts that are set around the nodes of a block, and around each node
abbrev pub braces_of : Option Around → Option DocumentFormat
braces_of g = option_map (λ a. document_format_tree a.braces) g

abbrev pub line_of : Option Around → List NodeFormat
line_of None = []
line_of (Some a) = map node_format_tree a.line.items

-- the nodes of a block, with those around each node
abbrev pub lined : Option Around → List Node → List Node
lined g ns = with_formats (line_of g) ns

-- a node, with these texts in its block, which has other nodes
abbrev pub enclosed : Option Around → KdlNode → List Node → Node
enclosed g n ns = with_braces (braces_of g) (filled n (lined g ns))

-- these texts are those of a block on one line, or the braces g
abbrev pub IsAroundIf : Bool → ℕ → DocumentFormat → Around → Type 0
IsAroundIf true number g a = (document_format_tree a.braces ≡ braces_in_line) × (map node_format_tree a.line.items ≡ formats_in_line number)
IsAroundIf false number g a = (document_format_tree a.braces ≡ g) × (a.line.items ≡ [])

abbrev pub IsAround : Layout → KdlDocument → DocumentFormat → Around → Type 0
IsAround l d g a = IsAroundIf (l.keep_one_line && is_on_one_line (document_tree d)) (length (out-KdlDocument d).nodes.items) g a

-- nodes, with another one in place of the one at a place
abbrev pub with_at : (KdlNode → Node) → List KdlNode → ℕ → List Node
with_at f [] i = []
with_at f (n ∷ ns) zero = f n ∷ map node_tree ns
with_at f (n ∷ ns) (suc i) = node_tree n ∷ with_at f ns i

-- the outermost nodes, given the blocks above, the outermost first, and the nodes of the innermost block
abbrev pub outermost : List LayoutFrame → List Node → List Node
outermost [] ns = ns
outermost (b ∷ above) ns = with_at (λ n. filled n (outermost above ns)) b.nodes.items b.at

-- the same, with the nodes of the innermost block as they are
abbrev pub whole : List LayoutFrame → LayoutFrame → List Node
whole above inner = outermost above (map node_tree inner.nodes.items)

-- the second node is the first one, laid out after what comes before it, and its texts can be printed
abbrev pub NodeIsSpaced : Layout → ℕ → Before → Node → Node → Type 0
NodeIsSpaced l level b n n' = IsLaidNode (keeping l) l.keep_one_line l.compact_empty l.blank_lines (settings l.config) level b n n' × IsWellFormedNode (node_data n)

-- so is the second document the first one
abbrev pub DocumentIsSpaced : Layout → KdlDocument → KdlDocument → Type 0
DocumentIsSpaced l d e = DocumentSpaced l d e × AreWellFormed (document_says d)

-- what comes before whatever follows a node
abbrev pub PassesAt : Layout → Node → Before → Type 0
PassesAt l n b = PassesNode l.blank_lines (settings l.config) n b

-- nodes likewise
abbrev pub NodesAreSpaced : Layout → ℕ → Before → List Node → List Node → Type 0
NodesAreSpaced l level b [] [] = Unit {0}
NodesAreSpaced l level b (o ∷ olds) (n ∷ ns) = (b' : Before) × NodeIsSpaced l level b o n × PassesAt l o b' × NodesAreSpaced l level b' olds ns
NodesAreSpaced l level b _ _ = ⊥

-- the first i nodes are laid out, the others are unchanged; `next` comes before the first of these
abbrev pub Partly : Layout → ℕ → Before → List Node → List KdlNode → ℕ → Before → Type 0
Partly l level b olds ns zero next = (next ≡ b) × (map node_tree ns ≡ olds)
Partly l level b (o ∷ olds) (n ∷ ns) (suc i) next = (b' : Before) × NodeIsSpaced l level b o (node_tree n) × PassesAt l o b' × Partly l level b' olds ns i next
Partly l level b _ _ (suc i) next = ⊥

-- the same, except for the node at i; `next` comes before the one after it
abbrev pub PartlyOpen : Layout → ℕ → Before → (Before → Node → KdlNode → Type 0) → List Node → List KdlNode → ℕ → Before → Type 0
PartlyOpen l level b Open (o ∷ olds) (n ∷ ns) zero next = Open b o n × PassesAt l o next × (map node_tree ns ≡ olds)
PartlyOpen l level b Open (o ∷ olds) (n ∷ ns) (suc i) next = (b' : Before) × NodeIsSpaced l level b o (node_tree n) × PassesAt l o b' × PartlyOpen l level b' Open olds ns i next
PartlyOpen l level b Open _ _ i next = ⊥

-- a node reads back before the rests P, and so does what its entries keep of their form
abbrev pub NodeStays : Settings → Rests → Node → Type 0
NodeStays s P n = NodeReads P n × NodeKeepsReading s n

-- the same of nodes
abbrev pub NodesStay : Settings → Rests → List Node → Type 0
NodesStay s P ns = NodesRead P (listed_nodes ns) × NodesKeepReading s (listed_nodes ns)

-- the second node does where the first one does
abbrev pub StaysAs : Settings → Node → Node → Type 0
StaysAs s n m = (P : Rests) → NodeStays s P n → NodeStays s P m

-- the second nodes do where the first ones do, and there are none if there were none
abbrev pub StayAs : Settings → List Node → List Node → Type 0
StayAs s ns ms = (ns ≡ [] → ms ≡ []) × ((P : Rests) → NodesStay s P ns → NodesStay s P ms)

-- a node is laid out once the nodes in its block are, the first of them after `first`, with the texts around them; it
-- reads back if it did with the old texts
abbrev pub IsSpacedBut : Layout → ℕ → Before → Node → Before → Option Around → List Node → KdlNode → Type 0
IsSpacedBut l level b o first g olds n =
    (ms : List Node) → NodesAreSpaced l (level + 1) first olds ms → NodeIsSpaced l level b o (enclosed g n ms) × (IndentsBySpaces (settings l.config) → StaysAs (settings l.config) (filled n ms) (enclosed g n ms))

-- what layout makes of a block whose nodes are laid out, with the texts around these: the block on more lines is `braces`
-- and `between`, and with its spellings `nodes`; it reads back if it did with the old texts
pub record BlockSpacing (l : Layout) (level : ℕ) (o : Option KdlDocument) (g : Option Around) (ms : List Node) : Type 0 where
  pub braces : Option DocumentFormat
  pub between : List Node
  pub nodes : List Node
  pub spaced : IsSpacedChildren l.compact_empty l.blank_lines (settings l.config) level (children_of (option_map document_tree o)) (with_texts braces (filled_block o between))
  pub respelled : AreRespelledNodes (keeping l) (settings l.config) (nodes_tree (nodes_in o)) (listed_nodes between) (listed_nodes nodes)
  pub same : with_texts (braces_of g) (filled_block o (lined g ms)) ≡ one_lined_children l.keep_one_line (children_of (option_map document_tree o)) (with_texts braces (filled_block o nodes))
  pub stays : IndentsBySpaces (settings l.config) → (h : Head) → StaysAs (settings l.config) (node h (filled_block o ms)) (node h (with_texts (braces_of g) (filled_block o (lined g ms))))

-- a block is laid out once its nodes are, the first of them after `first`
abbrev pub BlockIsSpaced : Layout → ℕ → Option KdlDocument → Before → Option Around → Type 0
BlockIsSpaced l level o first g = (ms : List Node) → NodesAreSpaced l (level + 1) first (map node_tree (nodes_in o)) ms → BlockSpacing l level o g ms

-- the level of a block, and the indentation there
abbrev pub IsAtLevel : Layout → ℕ → LayoutFrame → Type 0
IsAtLevel l level b = (b.level ≡ level) × (text_of b.before ≡ indentation (settings l.config) level)

-- of the nodes at a level, those before the open blocks are laid out
abbrev pub IsUnderWay : Layout → ℕ → Before → List Node → List LayoutFrame → LayoutFrame → Type 0
IsUnderWay l level c olds [] inner = IsAtLevel l level inner × Partly l level c olds inner.nodes.items inner.at inner.next
IsUnderWay l level c olds (b ∷ above) inner =
    IsAtLevel l level b
    × PartlyOpen l level c (λ c o n. (first : Before) × (ns : List Node) × IsSpacedBut l level c o first b.around ns n × IsUnderWay l (level + 1) first ns above inner) olds b.nodes.items b.at b.next

-- how much is left to lay out
abbrev pub left : List LayoutFrame → LayoutFrame → ℕ
left above inner = count_left (λ b. drop (b.at + 1) b.nodes.items) (drop inner.at inner.nodes.items) above

-- a step: the layout is in progress as before, and less is left
abbrev pub GoesOn : Layout → List LayoutFrame → LayoutFrame → List LayoutFrame → LayoutFrame → Type 0
GoesOn l above inner above' inner' =
    ((level : ℕ) (c : Before) (olds : List Node) → IsUnderWay l level c olds above inner → IsUnderWay l level c olds above' inner') × (left above' inner' < left above inner)

-- a step after which nodes still read back, if the layout is in progress before it
abbrev pub StepStays : Layout → List LayoutFrame → LayoutFrame → List LayoutFrame → LayoutFrame → Type 0
StepStays l above b above' b' = (level : ℕ) (c : Before) (olds : List Node) → IsUnderWay l level c olds above b → StayAs (settings l.config) (whole above b) (whole above' b')
