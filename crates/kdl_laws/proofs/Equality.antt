-- What `==` of nodes and documents means, on trees.
use Rattle.kdl_laws.proofs.Common.{◌≡◌, Bool, List, [], ◌∷◌, map, Option, Some, None, option_map, ap, sym, ◌∙◌, refl, subst, Decides-and, Decides-like, Decides, pointwise, option_eq, option_decides, identifier_decides, entry_decides, Identifier, identifier_tree, entry_tree, without_span, without_spans, KdlEntry, KdlIdentifier, node_without_spans, children_without_spans, document_without_spans, nodes_without_spans, same_node, same_document, Head, Node, node, Children, children_of, node_tree, document_tree, nodes_tree, node_format_tree, KdlDocument, out-KdlDocument, out-KdlNode, out-roll-KdlDocument, KdlNode, node_format_decides, document_format_decides, node_of, node_tree_out, node_tree_roll, document_tree_out, document_tree_roll}
use Rattle.std.proofs.Common.{◌&&◌}
use Rattle.kdl_entry.specs.contracts.entry.KdlEntryPartialEq.TheImpl as entry_impl
use Rattle.kdl_entry.specs.contracts.identifier.KdlIdentifierPartialEq.TheImpl as identifier_impl
use Rattle.kdl_parts.specs.Formats.{document_format_tree}
use Rattle.kdl.specs.contracts.document.KdlDocumentPartialEq.TheImpl.Laws.{is as document_is}
use Rattle.kdl_parts.specs.contracts.format.KdlDocumentFormatPartialEq.TheImpl as document_format_impl
use Rattle.kdl.specs.contracts.node.KdlNodePartialEq.TheImpl.Laws.{is as node_is}
use Rattle.kdl_parts.specs.contracts.format.KdlNodeFormatPartialEq.TheImpl as node_format_impl
use Rattle.kdl.specs.declared.document.KdlDocument.TheFolds.{map-KdlNode, ind-KdlDocument, ind-KdlNode}
use Rattle.kdl.specs.declared.document.KdlDocument.TheOpen.{KdlNode-F}
use Rattle.kdl.specs.declared.document.KdlDocument.TheViews.{roll-KdlDocument, roll-KdlNode, out-roll-KdlNode}
use Rattle.kdl.proofs.Trees.{NodeFields, DocumentFields, document_of}

-- an identifier's tree, without its span
abbrev spanless : KdlIdentifier → Identifier
spanless i = without_span (identifier_tree i)

mapped : (o : Option KdlIdentifier) → option_map without_span (option_map identifier_tree o) ≡ option_map spanless o
mapped None = refl
mapped (Some i) = refl

ty_decides : (o p : Option KdlIdentifier) → Decides (option_eq identifier_impl.ghosts.eq o p)
    (option_map without_span (option_map identifier_tree o) ≡ option_map without_span (option_map identifier_tree p))
ty_decides o p =
    Decides-like _ (λ e. mapped o ∙ e ∙ sym (mapped p)) (λ e. sym (mapped o) ∙ e ∙ mapped p)
    (option_decides identifier_impl.ghosts.eq spanless identifier_decides o p)

entries_decide : (xs ys : List KdlEntry) → Decides (pointwise entry_impl.ghosts.eq xs ys) (map without_spans (map entry_tree xs) ≡ map without_spans (map entry_tree ys))
entries_decide [] [] = (λ e. refl, λ e. refl)
entries_decide [] (y ∷ ys) = (λ e. cc, λ e. cc)
entries_decide (x ∷ xs) [] = (λ e. cc, λ e. cc)
entries_decide (x ∷ xs) (y ∷ ys) = Decides-like _ (λ (one, more). cc) (λ e. (cc, cc)) (Decides-and _ _ (entry_decides x y) (entries_decide xs ys))

-- what is to be shown of a document and of a node, of the nodes of a document and of the child block of a node
abbrev DocumentDecides : KdlDocument → Type 0
DocumentDecides d = (e : KdlDocument) → Decides (same_document d e) (document_without_spans (document_tree d) ≡ document_without_spans (document_tree e))

abbrev NodeDecides : KdlNode → Type 0
NodeDecides n = (m : KdlNode) → Decides (same_node n m) (node_without_spans (node_tree n) ≡ node_without_spans (node_tree m))

abbrev NodesDecide : List KdlNode → Type 0
NodesDecide xs = (ys : List KdlNode) → Decides (pointwise same_node xs ys) (nodes_without_spans (nodes_tree xs) ≡ nodes_without_spans (nodes_tree ys))

abbrev block_tree : Option KdlDocument → Children
block_tree o = children_without_spans (children_of (option_map document_tree o))

abbrev BlockDecides : Option KdlDocument → Type 0
BlockDecides o = (p : Option KdlDocument) → Decides (option_eq same_document o p) (block_tree o ≡ block_tree p)

nodes_decide : (es : List ((n : KdlNode) × NodeDecides n)) → NodesDecide (map (λ e. e.0) es)
nodes_decide [] [] = (λ e. refl, λ e. refl)
nodes_decide [] (y ∷ ys) = (λ e. cc, λ e. cc)
nodes_decide (e ∷ es) [] = (λ e. cc, λ e. cc)
nodes_decide (e ∷ es) (y ∷ ys) = Decides-like _ (λ (one, more). cc) (λ h. (cc, cc)) (Decides-and _ _ (e.1 y) (nodes_decide es ys))

no_block_decides : BlockDecides None
no_block_decides None = (λ e. refl, λ e. refl)
no_block_decides (Some d) = (λ e. cc, λ e. cc)

block_decides : (d : KdlDocument) → DocumentDecides d → BlockDecides (Some d)
block_decides d h None = (λ e. cc, λ e. cc)
block_decides d h (Some e) = Decides-like _ (λ k. cc) (λ k. cc) (h e)

-- `==` of documents and of nodes, by their fields
abbrev same_fields : DocumentFields → DocumentFields → Bool
same_fields x y = pointwise same_node x.nodes.items y.nodes.items && option_eq document_format_impl.ghosts.eq x.format y.format

fields_decide : (x y : DocumentFields) → NodesDecide x.nodes.items → Decides (same_fields x y) (document_without_spans (document_of x) ≡ document_without_spans (document_of y))
fields_decide x y h =
    let format = option_decides document_format_impl.ghosts.eq document_format_tree document_format_decides x.format y.format in
    Decides-like _ (λ (nodes, form). cc) (λ e. (cc, cc)) (Decides-and _ _ (h y.nodes.items) format)

abbrev same_parts : NodeFields → NodeFields → Bool
same_parts x y =
    option_eq identifier_impl.ghosts.eq x.ty y.ty
    && (identifier_impl.ghosts.eq x.name y.name
    && (pointwise entry_impl.ghosts.eq x.entries.items y.entries.items && (option_eq same_document x.children y.children && option_eq node_format_impl.ghosts.eq x.format y.format)))

abbrev head_in : Node → Head
head_in (node h k) = h

abbrev children_in : Node → Children
children_in (node h k) = k

parts_decide : (x y : NodeFields) → BlockDecides x.children → Decides (same_parts x y) (node_without_spans (node_of x) ≡ node_without_spans (node_of y))
parts_decide x y h =
    let format = option_decides node_format_impl.ghosts.eq node_format_tree node_format_decides x.format y.format in
    let entries = Decides-and _ _ (entries_decide x.entries.items y.entries.items) (Decides-and _ _ (h y.children) format) in
    Decides-like _ (λ (ty, (name, (es, (block, form)))). cc)
    (λ e. (ap (λ n. (head_in n).ty) e, (ap (λ n. (head_in n).name) e, (ap (λ n. (head_in n).entries) e, (ap children_in e, ap (λ n. (head_in n).format) e)))))
    (Decides-and _ _ (ty_decides x.ty y.ty) (Decides-and _ _ (identifier_decides x.name y.name) entries))

-- each of a document and a node, where it holds of what is inside
document_case : (x : DocumentFields) → NodesDecide x.nodes.items → DocumentDecides (roll-KdlDocument x)
document_case x h e = rw (document_is (roll-KdlDocument x) e, out-roll-KdlDocument x, document_tree_roll x, document_tree_out e) (fields_decide x (out-KdlDocument e) h)

node_case : (x : NodeFields) → BlockDecides x.children → NodeDecides (roll-KdlNode x)
node_case x h m = rw (node_is (roll-KdlNode x) m, out-roll-KdlNode x, node_tree_roll x, node_tree_out m) (parts_decide x (out-KdlNode m) h)

abbrev SureDocument : Type 0
SureDocument = (d : KdlDocument) × DocumentDecides d

abbrev SureNode : Type 0
SureNode = (n : KdlNode) × NodeDecides n

abbrev plain : KdlNode-F SureDocument SureNode → NodeFields
plain = map-KdlNode SureDocument SureNode KdlDocument KdlNode (λ d. d.0) (λ n. n.0)

held_block : (y : KdlNode-F SureDocument SureNode) → BlockDecides (plain y).children
held_block y = elim y.children as (λ o. BlockDecides (plain (record y { children = o })).children) [ None ↦ no_block_decides | Some d ↦ block_decides d.0 d.1 ]

-- documents, and nodes, are equal exactly where all but their spans is, at each depth
pub document_decides : (d : KdlDocument) → DocumentDecides d
document_decides =
    ind-KdlDocument DocumentDecides NodeDecides
    (λ x y is. document_case x (subst (λ z. NodesDecide z.nodes.items) is (nodes_decide y.nodes.items)))
    (λ x y is. node_case x (subst (λ z. BlockDecides z.children) is (held_block y)))

pub node_decides : (n : KdlNode) → NodeDecides n
node_decides =
    ind-KdlNode DocumentDecides NodeDecides
    (λ x y is. document_case x (subst (λ z. NodesDecide z.nodes.items) is (nodes_decide y.nodes.items)))
    (λ x y is. node_case x (subst (λ z. BlockDecides z.children) is (held_block y)))
