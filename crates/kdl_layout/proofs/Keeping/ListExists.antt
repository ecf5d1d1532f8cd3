-- A document that is laid out has a list of items.
use Rattle.kdl_layout.proofs.Common.{◌≡◌, ℕ, ◌+◌, Bool, true, false, ◌||◌, List, [], ◌∷◌, ◌++◌, refl, sym, append-nil, Head, node_type_texts, subst, Text, Entry, autoformatted, DocumentFormat, Node, node, Children, no_children, children, Document, document, Nodes, none, first, Item, GapItems, before_entry, before_block, PlaceItems, tail, at_start, past_node, spaced_lines, EntriesItems, NodeItems, of_node, ChildrenItems, NodesItems, DocumentItems, of_document, Settings, indentation, with_keep_if, or_empty, or_empty_document, EntriesKeepNone, NodeKeepsNone, ChildrenKeepNone, DocumentKeepsNone, NodesKeepNone, WrittenUnless, KeptEnd, KeptBefore, KeptBeforeBlock, last_place, without_bom, entry_leading, is_kept_format, following, IsFormattedEntry, AreFormattedEntries, has_block, SpacesContent, IsSpacedNode, IsSpacedChildren, AreSpacedNodes, IsFormattedDocument, Before}
use Rattle.kdl_layout.specs.Comments.{ItemsIn, EndItems, EntryItems, HeadItems}
use Rattle.kdl_layout.proofs.Keeping.InnerItems.{inside_none, type_none}
use Rattle.kdl_layout.specs.WithComments.{IsFormattedNode}

kept_in : (b : Bool) → b ≡ false → (Has : List Item → Type 0) (write : List Item → Text) (t : Text) → WrittenUnless b Has write t → (is : List Item) × ItemsIn Has is
kept_in true h Has write t k = absurd cc
kept_in false h Has write t k = (k.0, k.1)

kept_end : (b : Bool) → b ≡ false → (end space rest : Text) → KeptEnd b end space rest → (is : List Item) × EndItems end is
kept_end true h end space rest k = absurd cc
kept_end false h end space rest k = (k.0, k.1)

-- without those inside an entry or a type
no_inside : (e : Entry) {is : List Item} → ItemsIn (PlaceItems (before_entry false) (entry_leading e.format)) is → EntryItems false e is
no_inside e {is} i = (is, [], i, inside_none e.name e.ty e.format, sym (append-nil is))

no_type : (h : Head) {is : List Item} → EntriesItems false h.entries is → HeadItems false h is
no_type h {is} i = ([], is, type_none h.ty (node_type_texts (or_empty h.format)), i, refl)

module _ (s : Settings) (no_keep : s.entry_autoformate_keep ≡ false) (with : s.no_comments ≡ false) where
  entry_has : (e e' : Entry) → IsFormattedEntry s e e' → is_kept_format e.format ≡ false → (is : List Item) × ItemsIn (PlaceItems (before_entry false) (entry_leading e.format)) is
  entry_has e e' f h =
      let g : (t : Text) × KeptBefore s e.format t × (e' ≡ following t (autoformatted e))
      = subst (λ (b : Bool). (t : Text) × KeptBefore s (with_keep_if b e).format t × (e' ≡ following t (autoformatted (with_keep_if b e)))) no_keep f in
      kept_in s.no_comments with (PlaceItems (before_entry false) (entry_leading e.format)) tail g.0
      (subst (λ (b : Bool). WrittenUnless (b || s.no_comments) (PlaceItems (before_entry false) (entry_leading e.format)) tail g.0) h g.1)

  entries_have : (es es' : List Entry) → AreFormattedEntries s es es' → EntriesKeepNone es → (is : List Item) × EntriesItems false es is
  entries_have [] es' f m = ([], EntriesItems.no_entry)
  entries_have (e ∷ es) (e' ∷ es') f m = let x = entry_has e e' f.0 m.0 in let y = entries_have es es' f.1 m.1 in (x.0 ++ y.0, EntriesItems.an_entry (no_inside e x.1) y.1)
  entries_have (e ∷ es) [] f m = absurd f

  leading_has : (level : ℕ) (ns : Nodes) (f : DocumentFormat) (b : Before) (t u : Text) → SpacesContent 0 s level ns f b t u → (is : List Item) × ItemsIn (GapItems (without_bom f.leading)) is
  leading_has level ns f b t u k = kept_in s.no_comments with (GapItems (without_bom f.leading)) (spaced_lines 0 (indentation s level) at_start (without_bom f.leading)) t k.leading.0

  trailing_has : (level : ℕ) (ns : Nodes) (f : DocumentFormat) (b : Before) (t u : Text) → SpacesContent 0 s level ns f b t u → (is : List Item) × ItemsIn (GapItems f.trailing) is
  trailing_has level ns f b t u k = kept_in s.no_comments with (GapItems f.trailing) (spaced_lines 0 (indentation s level) k.last f.trailing) u k.trailing.0

  mutual
    has_items : (level : ℕ) (b : Before) (n n' : Node) → IsSpacedNode false 0 s level b n n' → NodeKeepsNone n → (is : List Item) × NodeItems false n is
    has_items level b (node h k) (node h' k') (f, c) m =
        let (t, kept, line) = f.format in
        let g = or_empty h.format in
        let a = kept_in s.no_comments with (GapItems g.leading) (spaced_lines 0 (indentation s level) b g.leading) kept.lines kept.leading.0 in
        let es = entries_have h.entries h'.entries f.entries m.0 in
        let x = children_have level g.before_children t.before_block k k' c kept.before_block m.1 in
        let d = kept_in s.no_comments with (PlaceItems (last_place (has_block k)) g.before_terminator) tail t.last kept.last in
        let e = kept_end s.no_comments with g.terminator t.space t.comment kept.end in
        let z = kept_in s.no_comments with (GapItems g.trailing) (spaced_lines 0 (indentation s level) (past_node g.terminator) g.trailing) t.following kept.following.0 in
        (a.0 ++ es.0 ++ x.0 ++ d.0 ++ e.0 ++ z.0, of_node a.1 (no_type h es.1) x.1 d.1 e.1 z.1)

    children_have : (level : ℕ) (place t : Text) (k k' : Children) → IsSpacedChildren false 0 s level k k' → KeptBeforeBlock s (has_block k) place t → ChildrenKeepNone k → (is : List Item) × ChildrenItems false place k is
    children_have level place t no_children k' c b m = ([], ChildrenItems.no_block)
    children_have level place t (children (document f span ns)) (children (document f' span' ns')) (b', c, same, nodes, fits) b m =
        let x = kept_in s.no_comments with (PlaceItems before_block place) tail t b in
        let i = leading_has (level + 1) ns (or_empty_document f) b' c.0 c.1 c.2 in
        let y = nodes_have (level + 1) b' ns ns' nodes m in
        let j = trailing_has (level + 1) ns (or_empty_document f) b' c.0 c.1 c.2 in
        (x.0 ++ (i.0 ++ y.0 ++ j.0), ChildrenItems.block x.1 (of_document i.1 y.1 j.1))
    children_have level place t (children (document f span ns)) no_children c b m = absurd c

    nodes_have : (level : ℕ) (b : Before) (ns ns' : Nodes) → AreSpacedNodes false 0 s level b ns ns' → NodesKeepNone ns → (is : List Item) × NodesItems false ns is
    nodes_have level b none ns' f m = ([], NodesItems.no_node)
    nodes_have level b (first n ns) (first n' ns') f m = let x = has_items level b n n' f.1 m.0 in let y = nodes_have level f.0 ns ns' f.3 m.1 in (x.0 ++ y.0, NodesItems.a_node x.1 y.1)
    nodes_have level b (first n ns) none f m = absurd f

  pub node_has : (level : ℕ) (n n' : Node) → IsFormattedNode s level n n' → NodeKeepsNone n → (is : List Item) × NodeItems false n is
  node_has level n n' f m = has_items level at_start n n' f m

  pub document_has_items : (level : ℕ) (d d' : Document) → IsFormattedDocument s level d d' → DocumentKeepsNone d → (is : List Item) × DocumentItems false d is
  document_has_items level (document f span ns) (document f' span' ns') (b, c, same, nodes) m =
      let i = leading_has level ns (or_empty_document f) b c.0 c.1 c.2 in
      let y = nodes_have level b ns ns' nodes m in
      let j = trailing_has level ns (or_empty_document f) b c.0 c.1 c.2 in
      (i.0 ++ y.0 ++ j.0, of_document i.1 y.1 j.1)
