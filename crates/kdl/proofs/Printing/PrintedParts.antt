-- What nodes and documents print, part by part.
use Rattle.kdl.proofs.Common.{◌≡◌, ℕ, ◌++◌, map, ap, ◌∙◌, sym, refl, append_assoc, option_map, entry_tree, print_head, print_tail, leading_text, trailing_text, print_document, print_pieces, print_node, print_nodes, Nodes, none, first, join, children_of, head_tree, node_tree, nodes_tree, document_tree, document_format_tree, KdlNode, KdlDocument, out-KdlDocument, out-KdlNode}
use Rattle.kdl.proofs.Trees.{document_tree_out, node_tree_out}

-- one text after another
pub print_nodes-join : (ns ms : Nodes) (depth : ℕ) → print_nodes (join ns ms) depth ≡ print_nodes ns depth ++ print_nodes ms depth
print_nodes-join none ms depth = refl
print_nodes-join (first n ns) ms depth = ap (λ t. print_node n depth ++ t) (print_nodes-join ns ms depth) ∙ sym (append_assoc (print_node n depth) (print_nodes ns depth) (print_nodes ms depth))

-- what a document and a node print, by their fields
pub document_printed : (x : KdlDocument) (depth : ℕ) → print_document (document_tree x) depth
    ≡ leading_text (option_map document_format_tree (out-KdlDocument x).format) ++ print_nodes (nodes_tree (out-KdlDocument x).nodes.items) depth ++ trailing_text (option_map document_format_tree (out-KdlDocument x).format)
document_printed x depth = ap (λ d. print_document d depth) (document_tree_out x)

pub node_printed : (x : KdlNode) (depth : ℕ) → print_node (node_tree x) depth
    ≡ print_head (head_tree (out-KdlNode x)) depth ++ print_pieces (map entry_tree (out-KdlNode x).entries.items) ++ print_tail (head_tree (out-KdlNode x)) (children_of (option_map document_tree (out-KdlNode x).children)) depth
node_printed x depth = ap (λ n. print_node n depth) (node_tree_out x)
