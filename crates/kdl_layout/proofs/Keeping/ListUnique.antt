-- A document has one list of items at most.
use Rattle.kdl_layout.proofs.Common.{◌≡◌, ◌∙◌, Bool, List, ◌++◌, refl, sym, Text, Entry, Head, node_type_texts, or_empty, Node, Children, Document, Nodes, Item, EntriesItems, NodeItems, of_node, ChildrenItems, NodesItems, DocumentItems, of_document}
use Rattle.kdl_layout.specs.Comments.{HeadItems}
use Rattle.kdl_layout.proofs.Keeping.InnerItems.{entry_det, type_det}
use Rattle.kdl_layout.proofs.Listing.ItemsUnique.{end_items_det, gap_in_det, place_in_det}

both : {a b c d : List Item} → a ≡ c → b ≡ d → a ++ b ≡ c ++ d
both e f = rw (e, f) refl

entries_det : {inner : Bool} {es : List Entry} {is js : List Item} → EntriesItems inner es is → EntriesItems inner es js → is ≡ js
entries_det EntriesItems.no_entry EntriesItems.no_entry = refl
entries_det {inner} (EntriesItems.an_entry {e = e} i k) (EntriesItems.an_entry j l) = both (entry_det inner e i j) (entries_det k l)

head_det : {inner : Bool} (h : Head) {is js : List Item} → HeadItems inner h is → HeadItems inner h js → is ≡ js
head_det {inner} h (a, b, i, j, e) (c, d, k, l, f) = e ∙ both (type_det inner h.ty (node_type_texts (or_empty h.format)) i k) (entries_det j l) ∙ sym f

mutual
  pub node_items_det : {inner : Bool} {n : Node} {is js : List Item} → NodeItems inner n is → NodeItems inner n js → is ≡ js
  node_items_det (of_node {h = h} a b c d e f) (of_node a' b' c' d' e' f') =
      both (both (both (both (both (gap_in_det a a') (head_det h b b')) (children_det c c')) (place_in_det d d')) (end_items_det e e')) (gap_in_det f f')

  children_det : {inner : Bool} {t : Text} {k : Children} {is js : List Item} → ChildrenItems inner t k is → ChildrenItems inner t k js → is ≡ js
  children_det ChildrenItems.no_block ChildrenItems.no_block = refl
  children_det (ChildrenItems.block i d) (ChildrenItems.block j e) = both (place_in_det i j) (document_items_det d e)

  nodes_det : {inner : Bool} {ns : Nodes} {is js : List Item} → NodesItems inner ns is → NodesItems inner ns js → is ≡ js
  nodes_det NodesItems.no_node NodesItems.no_node = refl
  nodes_det (NodesItems.a_node i k) (NodesItems.a_node j l) = both (node_items_det i j) (nodes_det k l)

  pub document_items_det : {inner : Bool} {d : Document} {is js : List Item} → DocumentItems inner d is → DocumentItems inner d js → is ≡ js
  document_items_det (of_document a b c) (of_document a' b' c') = both (both (gap_in_det a a') (nodes_det b b')) (gap_in_det c c')
