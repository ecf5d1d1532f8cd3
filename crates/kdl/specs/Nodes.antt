-- Nodes inserted among others, and the newlines that are added there: at the end of a node, or of the text before the first one.
use Rattle.std.specs.List.{insert}
use Rattle.std.specs.Prelude.{◌≡◌, ℕ, zero, suc, ◌+◌, ◌≤◌, List, [], ◌++◌, map, replicate, take, drop, Option, Some, None, option_map, unwrap_or, slice_get, slice_set}
use Rattle.kdl_text.specs.Chars.{Text}
use Rattle.kdl_entry.specs.Tree.{Entry}
use Rattle.kdl_grammar.specs.Data as data'
use Rattle.kdl_grammar.specs.Print.{before_block, end_text, leading_text, print_document, print_node, print_nodes, trailing_text}
use Rattle.kdl_grammar.specs.Tree.{DocumentFormat, Head, Node, node, NodeFormat, listed_nodes}
use Rattle.kdl_parts.specs.Formats.{document_format_tree, empty_node_format, node_texts}
use Rattle.kdl_parts.specs.declared.format.KdlNodeFormat.{KdlNodeFormat}
use Rattle.kdl.specs.Change.{with_children, with_format}
use Rattle.kdl.specs.Cleared.{new_document}
use Rattle.kdl.specs.DocumentLookups.{nodes_of}
use Rattle.kdl.specs.Tree.{document_prints, document_tree, node_prints, node_tree}
use Rattle.kdl.specs.declared.document.KdlDocument.{KdlDocument, out-KdlDocument}
use Rattle.kdl.specs.declared.node.KdlNode.{KdlNode, out-KdlNode}

-- k newlines
abbrev pub newlines : ℕ → Text
newlines k = replicate k 10

-- what a node without a format prints around these entries at depth 0, as a format
abbrev pub printed_format : List Entry → NodeFormat
printed_format es = record empty_node_format { before_children = before_block None es }

-- the format of a node, or what it prints without one
abbrev pub format_or_printed : Head → NodeFormat
format_or_printed h = unwrap_or h.format (printed_format h.entries)

-- g is f with k more newlines at the end: before the terminator, in it, or after it
pub record EndsWith (k : ℕ) (f g : NodeFormat) : Type 0 where
  pub texts : end_text (Some g) ≡ end_text (Some f) ++ newlines k
  pub rest : g ≡ record f { before_terminator = g.before_terminator; terminator = g.terminator; trailing = g.trailing }

-- m is n with k more newlines at its end
abbrev pub WithNewlines : ℕ → Node → Node → Type 0
WithNewlines zero n m = m ≡ n
WithNewlines (suc k) (node h c) m = (g : NodeFormat) × (m ≡ node (record h { format = Some g }) c) × EndsWith (suc k) (format_or_printed h) g

-- the same of the text before the first node
abbrev pub LeadsWith : ℕ → Option DocumentFormat → Option DocumentFormat → Type 0
LeadsWith zero o p = p ≡ o
LeadsWith (suc k) o p = (f : DocumentFormat) × (o ≡ Some f) × (p ≡ Some (record f { leading = f.leading ++ newlines (suc k) }))

-- ms are the nodes ns, of which the one at i has k more newlines at its end
pub record EndedAt (i k : ℕ) (ns ms : List Node) : Type 0 where
  pub old : Node
  pub new : Node
  pub is : slice_get ns i ≡ Some old
  pub ends : WithNewlines k old new
  pub nodes : ms ≡ slice_set ns i new

-- before the place i there are k more newlines: at the end of the node before it, or of the text before the first node
abbrev pub EndedBefore : ℕ → ℕ → Option DocumentFormat → List Node → Option DocumentFormat → List Node → Type 0
EndedBefore zero k o ns p ms = (ms ≡ ns) × LeadsWith k o p
EndedBefore (suc i) k o ns p ms = (p ≡ o) × EndedAt i k ns ms

-- the format of a document, and the trees of its nodes
abbrev pub texts_around : KdlDocument → Option DocumentFormat
texts_around d = option_map document_format_tree (out-KdlDocument d).format

abbrev pub trees : KdlDocument → List Node
trees d = map node_tree (nodes_of d)

-- what a document prints up to the place i, and from there on, at a depth
abbrev pub text_up_to : ℕ → KdlDocument → ℕ → Text
text_up_to i d depth = leading_text (texts_around d) ++ print_nodes (listed_nodes (take i (trees d))) depth

abbrev pub text_from : ℕ → KdlDocument → ℕ → Text
text_from i d depth = print_nodes (listed_nodes (drop i (trees d))) depth ++ trailing_text (texts_around d)

-- e is d with the node n at the place i, k newlines added before it and j newlines at its end
pub record IsPut (i : ℕ) (n : Node) (d e : KdlDocument) : Type 0 where
  pub k : ℕ
  pub j : ℕ
  pub few : (k ≤ 2) × (j ≤ 2)
  pub ended : List Node
  pub put : Node
  pub before : EndedBefore i k (texts_around d) (trees d) (texts_around e) ended
  pub ends : WithNewlines j n put
  pub nodes : trees e ≡ insert ended i put
  pub span : (out-KdlDocument e).span ≡ (out-KdlDocument d).span

-- e prints what d prints, and at the place i the node n, with at most two newlines added before it and two at its end
abbrev pub PrintsPut : ℕ → KdlNode → KdlDocument → KdlDocument → Type 0
PrintsPut i n d e = (k : ℕ) × (j : ℕ) × (k ≤ 2) × (j ≤ 2)
    × (document_prints e ≡ text_up_to i d 0 ++ newlines k ++ node_prints n ++ newlines j ++ text_from i d 0)

-- the data of nodes, with a node before the one at i, or last if there is none
abbrev pub said_with : ℕ → data'.Node → data'.Nodes → data'.Nodes
said_with i x data'.none = data'.first x data'.none
said_with zero x (data'.first y ys) = data'.first x (data'.first y ys)
said_with (suc i) x (data'.first y ys) = data'.first y (said_with i x ys)

-- the data of nodes, without the node at i
abbrev pub said_without : ℕ → data'.Nodes → data'.Nodes
said_without i data'.none = data'.none
said_without zero (data'.first y ys) = ys
said_without (suc i) (data'.first y ys) = data'.first y (said_without i ys)

-- d prints the node n at the place i, and e the same without it, at each depth
abbrev pub PrintsWithout : ℕ → KdlNode → KdlDocument → KdlDocument → Type 0
PrintsWithout i n d e = (depth : ℕ) → (print_document (document_tree d) depth ≡ text_up_to i d depth ++ print_node (node_tree n) depth ++ text_from (i + 1) d depth)
    × (print_document (document_tree e) depth ≡ text_up_to i d depth ++ text_from (i + 1) d depth)

-- the text before a new block: the text before the terminator, with a newline if an escline is open
abbrev pub BlockBegun : Option NodeFormat → Option NodeFormat → Type 0
BlockBegun None g = g ≡ None
BlockBegun (Some f) g = (k : ℕ) × (k ≤ 1) × (g ≡ Some (record f { before_children = f.before_terminator ++ newlines k; before_terminator = [] }))

-- m' is m with the node n at the place i of its block: the block is the given one, or a new one if none is given
abbrev pub ChildPutIn : Option KdlDocument → ℕ → KdlNode → KdlNode → KdlNode → Type 0
ChildPutIn None i n m m' = (d : KdlDocument) × (e : KdlDocument) × (g : Option KdlNodeFormat) × (document_tree d ≡ new_document) × IsPut 0 (node_tree n) d e
    × BlockBegun (node_texts (out-KdlNode m).format) (node_texts g) × (m' ≡ with_children (with_format m g) (Some e))
ChildPutIn (Some d) i n m m' = (e : KdlDocument) × IsPut i (node_tree n) d e × (m' ≡ with_children m (Some e))

-- m' is m with the node n at the place i of its own block, or of a new one if it has none
abbrev pub ChildPut : ℕ → KdlNode → KdlNode → KdlNode → Type 0
ChildPut i n m m' = ChildPutIn (out-KdlNode m).children i n m m'
