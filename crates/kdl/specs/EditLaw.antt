-- What a node and a document print when their entries or nodes are replaced.
use Rattle.std.specs.Prelude.{◌≡◌, ℕ, ◌+◌, List, ◌++◌, map, take, drop, Some, IsSome, option_map, slice_get, Vec}
use Rattle.std.specs.declared.alloc.Global.{Global}
use Rattle.kdl_text.specs.Chars.{Text}
use Rattle.kdl_entry.specs.Print.{print_entry}
use Rattle.kdl_entry.specs.Tree.{Entry, entry_tree}
use Rattle.kdl_entry.specs.declared.entry.KdlEntry.{KdlEntry}
use Rattle.kdl.specs.Change.{with_entries, with_entry, with_nodes, with_node}
use Rattle.kdl_grammar.specs.Print.{print_head, print_tail, print_piece, print_pieces, print_node, print_nodes, print_document, leading_text, trailing_text}
use Rattle.kdl_grammar.specs.Tree.{Node, node}
use Rattle.kdl.specs.Tree.{node_tree, nodes_tree, document_tree}
use Rattle.kdl_parts.specs.Formats.{document_format_tree}
use Rattle.kdl.specs.declared.document.KdlDocument.{KdlDocument}
use Rattle.kdl.specs.declared.document.KdlDocument.TheViews.{out-KdlDocument, out-KdlNode}
use Rattle.kdl.specs.declared.node.KdlNode.{KdlNode}

-- what a node prints before its entries, and after them; its entries
abbrev pub head_of : Node → ℕ → Text
head_of (node h k) depth = print_head h depth

abbrev pub tail_of : Node → ℕ → Text
tail_of (node h k) depth = print_tail h k depth

abbrev pub tree_entries : Node → List Entry
tree_entries (node h k) = h.entries

-- m prints what n prints, except for the pieces of the entries, which are those of es
abbrev pub PrintsInstead : Node → List Entry → Node → Type 0
PrintsInstead n es m = (depth : ℕ) → print_node m depth ≡ head_of n depth ++ print_pieces es ++ tail_of n depth

-- what a node prints before its entry at i, and after it
abbrev pub text_before : Node → ℕ → ℕ → Text
text_before n i depth = head_of n depth ++ print_pieces (take i (tree_entries n))

abbrev pub text_after : Node → ℕ → ℕ → Text
text_after n i depth = print_pieces (drop (i + 1) (tree_entries n)) ++ tail_of n depth

-- m prints what n prints, except for the piece of the entry at i, which is that of e
abbrev pub PrintsAtPlace : Node → ℕ → Entry → Node → Type 0
PrintsAtPlace n i e m = (depth : ℕ) → print_node m depth ≡ text_before n i depth ++ print_piece e ++ text_after n i depth

-- a node with a format prints the same head and tail whatever its entries are, and the pieces of its entries between them
abbrev pub EntriesExchanged : Type 0
EntriesExchanged = (n : KdlNode) (v : Vec KdlEntry Global) → IsSome (out-KdlNode n).format → PrintsInstead (node_tree n) (map entry_tree v.items) (node_tree (with_entries n v))

-- if one entry of a node with a format is replaced, its piece of the printed text is replaced, and no other byte
abbrev pub EntryExchanged : Type 0
EntryExchanged = (n : KdlNode) (i : ℕ) (old new : KdlEntry) → IsSome (out-KdlNode n).format → slice_get (out-KdlNode n).entries.items i ≡ Some old
    → PrintsAtPlace (node_tree n) i (entry_tree old) (node_tree n) × PrintsAtPlace (node_tree n) i (entry_tree new) (node_tree (with_entry n i new))

-- the piece of an entry with a format is what the entry prints
abbrev pub FormedPiece : Type 0
FormedPiece = (e : Entry) → IsSome e.format → print_piece e ≡ print_entry e

-- what a document prints before its node at i, and after it
abbrev pub document_before : KdlDocument → ℕ → ℕ → Text
document_before d i depth = leading_text (option_map document_format_tree (out-KdlDocument d).format) ++ print_nodes (nodes_tree (take i (out-KdlDocument d).nodes.items)) depth

abbrev pub document_after : KdlDocument → ℕ → ℕ → Text
document_after d i depth = print_nodes (nodes_tree (drop (i + 1) (out-KdlDocument d).nodes.items)) depth ++ trailing_text (option_map document_format_tree (out-KdlDocument d).format)

-- a document prints the same leading and trailing text whatever its nodes are, and its nodes between them
abbrev pub NodesExchanged : Type 0
NodesExchanged = (d : KdlDocument) (v : Vec KdlNode Global) (depth : ℕ) → print_document (document_tree (with_nodes d v)) depth
    ≡ leading_text (option_map document_format_tree (out-KdlDocument d).format) ++ print_nodes (nodes_tree v.items) depth ++ trailing_text (option_map document_format_tree (out-KdlDocument d).format)

-- if one node of a document is replaced, its piece of the printed text is replaced, and no other byte
abbrev pub NodeExchanged : Type 0
NodeExchanged = (d : KdlDocument) (i : ℕ) (old new : KdlNode) (depth : ℕ) → slice_get (out-KdlDocument d).nodes.items i ≡ Some old
    → (print_document (document_tree d) depth ≡ document_before d i depth ++ print_node (node_tree old) depth ++ document_after d i depth)
    × (print_document (document_tree (with_node d i new)) depth ≡ document_before d i depth ++ print_node (node_tree new) depth ++ document_after d i depth)
