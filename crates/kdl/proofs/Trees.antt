-- The trees of a node and of a document, by their fields.
use Rattle.kdl.proofs.Common.{◌≡◌, List, [], ◌∷◌, ◌++◌, map, ap, ◌∙◌, refl, None, Some, option_map, map-append, KdlEntry, identifier_tree, entry_tree, Document, document, Node, node, first, join, listed_nodes, children_of, head_tree, document_tree, node_tree, nodes_tree, document_format_tree, node_format_tree, KdlNode, KdlDocument, KdlNode-F, out-KdlDocument, out-KdlNode, roll-KdlDocument, roll-KdlNode, map-KdlNode, fold_out-KdlDocument, fold_out-KdlNode}
use Rattle.std.specs.List.{AllZip}
use Rattle.kdl.specs.Tree.{document_step, node_step}
use Rattle.kdl.specs.declared.document.KdlDocument.TheOpen.{KdlDocument-F}
use Rattle.kdl.specs.declared.document.KdlDocument.TheFolds.{fold-roll-KdlDocument, fold-roll-KdlNode}

-- the fields of a node, and of a document
abbrev pub NodeFields : Type 0
NodeFields = KdlNode-F KdlDocument KdlNode

abbrev pub DocumentFields : Type 0
DocumentFields = KdlDocument-F KdlDocument KdlNode

-- the trees of such fields
abbrev pub document_of : DocumentFields → Document
document_of x = document (option_map document_format_tree x.format) x.span (nodes_tree x.nodes.items)

abbrev pub node_of : NodeFields → Node
node_of x = node (head_tree x) (children_of (option_map document_tree x.children))

abbrev mapped : NodeFields → KdlNode-F Document Node
mapped = map-KdlNode KdlDocument KdlNode Document Node document_tree node_tree

step_mapped : (x : NodeFields) → node_step (mapped x) ≡ node_of x
step_mapped x =
    elim x.children as (λ o. node_step (mapped (record x { children = o })) ≡ node_of (record x { children = o })) [ None ↦ refl | Some c ↦ refl ]

pub document_tree_out : (x : KdlDocument) → document_tree x ≡ document_of (out-KdlDocument x)
document_tree_out x = fold_out-KdlDocument Document Node document_step node_step x

pub document_tree_roll : (x : DocumentFields) → document_tree (roll-KdlDocument x) ≡ document_of x
document_tree_roll x = fold-roll-KdlDocument Document Node document_step node_step x

pub node_tree_out : (x : KdlNode) → node_tree x ≡ node_of (out-KdlNode x)
node_tree_out x = fold_out-KdlNode Document Node document_step node_step x ∙ step_mapped (out-KdlNode x)

pub node_tree_roll : (x : NodeFields) → node_tree (roll-KdlNode x) ≡ node_of x
node_tree_roll x = fold-roll-KdlNode Document Node document_step node_step x ∙ step_mapped x

-- nodes with more nodes after them
pub nodes_of-append : (xs ys : List Node) → listed_nodes (xs ++ ys) ≡ join (listed_nodes xs) (listed_nodes ys)
nodes_of-append [] ys = refl
nodes_of-append (x ∷ xs) ys = ap (first x) (nodes_of-append xs ys)

pub nodes_tree-append : (xs ys : List KdlNode) → nodes_tree (xs ++ ys) ≡ join (nodes_tree xs) (nodes_tree ys)
nodes_tree-append xs ys = ap listed_nodes (map-append node_tree xs ys) ∙ nodes_of-append (map node_tree xs) (map node_tree ys)

-- clones have the same trees
pub entries_cloned : (xs ys : List KdlEntry) → AllZip (λ x y. entry_tree y ≡ entry_tree x) xs ys → map entry_tree ys ≡ map entry_tree xs
entries_cloned [] [] h = refl
entries_cloned [] (y ∷ ys) h = absurd h
entries_cloned (x ∷ xs) [] h = absurd h
entries_cloned (x ∷ xs) (y ∷ ys) h = rw (h.0, entries_cloned xs ys h.1) refl

pub same_node : (x y : NodeFields) → option_map identifier_tree x.ty ≡ option_map identifier_tree y.ty → identifier_tree x.name ≡ identifier_tree y.name
    → map entry_tree x.entries.items ≡ map entry_tree y.entries.items → option_map node_format_tree x.format ≡ option_map node_format_tree y.format
    → x.span ≡ y.span → children_of (option_map document_tree x.children) ≡ children_of (option_map document_tree y.children) → node_of x ≡ node_of y
same_node x y t n e f s c = rw (t, n, e, f, s, c) refl
