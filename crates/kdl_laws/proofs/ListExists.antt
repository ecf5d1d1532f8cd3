-- Each document and each node has a list of items.
use Rattle.kdl_laws.proofs.Common.{◌≡◌, ℕ, Bool, true, false, refl, Option, Some, None, List, [], ◌∷◌, ◌++◌, Text, Entry, Head, Node, node, Children, no_children, children, Document, document, Nodes, none, first, Item, GapItems, PlaceItems, EndItems, NodeItems, DocumentItems, Settings, DocumentKeepsNone, NodeKeepsNone, without_bom, IsFormattedDocument, IsFormattedNode}
use Rattle.kdl_entry.specs.Places.{between}
use Rattle.kdl_layout.specs.Items.{comment, line_end, before_entry, before_block}
use Rattle.kdl_entry.specs.Tree.{Identifier, EntryFormat}
use Rattle.kdl_layout.specs.Comments.{ItemsIn, EntriesItems, HeadItems, InnerIn, InnerItems, InsideItems, KeyItems, TypeItems, of_node, ChildrenItems, NodesItems, of_document}
use Rattle.kdl_layout.specs.Respelled.{TypeTexts, entry_type_texts, node_type_texts}
use Rattle.kdl_layout.specs.Formatted.{or_empty, or_empty_document}
use Rattle.kdl_layout.specs.Kept.{last_place, entry_leading}
use Rattle.kdl_layout.specs.WithComments.{has_block}
use Rattle.kdl_layout.proofs.Keeping.ListExists.{document_has_items, node_has}

-- it can't be that no list is of the kind
abbrev SomeList : (List Item → Type 0) → Type 0
SomeList Has = ((is : List Item) → Has is → ⊥) → ⊥

in_place : (Has : List Item → Type 0) → SomeList (ItemsIn Has)
in_place Has f = f [] (ItemsIn.no_items (λ is d. f is (ItemsIn.items d)))

at_end : (t : Text) → SomeList (EndItems t)
at_end t f = f [] (EndItems.other (λ l. f (comment (between t (line_end t)) ∷ []) (EndItems.line_comment l)))

-- comments inside
in_text : (inner : Bool) (t : Text) → SomeList (InnerIn inner t)
in_text false t f = f [] refl
in_text true t f = in_place (InnerItems t) f

in_key : (inner : Bool) (o : Option Identifier) (t u : Text) → SomeList (KeyItems inner o t u)
in_key inner None t u f = f [] refl
in_key inner (Some i) t u f = in_text inner t (λ js a. in_text inner u (λ ks b. f (js ++ ks) (js, ks, a, b, refl)))

in_type : (inner : Bool) (o : Option Identifier) (x : TypeTexts) → SomeList (TypeItems inner o x)
in_type inner None x f = f [] refl
in_type inner (Some i) x f = in_text inner x.before_name (λ js a. in_text inner x.after_name (λ ks b. in_text inner x.after (λ ls c. f (js ++ ks ++ ls) (js, ks, ls, a, b, c, refl))))

inside : (inner : Bool) (k o : Option Identifier) (g : Option EntryFormat) → SomeList (InsideItems inner k o g)
inside inner k o None f = f [] refl
inside inner k o (Some g) f = in_key inner k g.after_key g.after_eq (λ js a. in_type inner o (entry_type_texts g) (λ ks b. f (js ++ ks) (js, ks, a, b, refl)))

in_entries : (inner : Bool) (es : List Entry) → SomeList (EntriesItems inner es)
in_entries inner [] f = f [] EntriesItems.no_entry
in_entries inner (e ∷ es) f =
    in_place (PlaceItems (before_entry false) (entry_leading e.format)) (λ is d. inside inner e.name e.ty e.format (λ ks x. in_entries inner es (λ js g. f ((is ++ ks) ++ js) (EntriesItems.an_entry (is, ks, d, x, refl) g))))

in_head : (inner : Bool) (h : Head) → SomeList (HeadItems inner h)
in_head inner h f = in_type inner h.ty (node_type_texts (or_empty h.format)) (λ js a. in_entries inner h.entries (λ ks b. f (js ++ ks) (js, ks, a, b, refl)))

mutual
  pub in_node : (inner : Bool) (n : Node) → ((is : List Item) → NodeItems inner n is → ⊥) → ⊥
  in_node inner (node h k) f =
      let g = or_empty h.format in
      in_place (GapItems g.leading) (λ is a. in_head inner h (λ js b. in_children inner g.before_children k (λ ks c.
      in_place (PlaceItems (last_place (has_block k)) g.before_terminator) (λ ls d. at_end g.terminator (λ ms e. in_place (GapItems g.trailing) (λ ns z.
      f (is ++ js ++ ks ++ ls ++ ms ++ ns) (of_node a b c d e z)))))))

  in_children : (inner : Bool) (t : Text) (k : Children) → ((is : List Item) → ChildrenItems inner t k is → ⊥) → ⊥
  in_children inner t no_children f = f [] ChildrenItems.no_block
  in_children inner t (children d) f = in_place (PlaceItems before_block t) (λ is a. in_document inner d (λ js b. f (is ++ js) (ChildrenItems.block a b)))

  in_nodes : (inner : Bool) (ns : Nodes) → ((is : List Item) → NodesItems inner ns is → ⊥) → ⊥
  in_nodes inner none f = f [] NodesItems.no_node
  in_nodes inner (first n ns) f = in_node inner n (λ is a. in_nodes inner ns (λ js b. f (is ++ js) (NodesItems.a_node a b)))

  pub in_document : (inner : Bool) (d : Document) → ((is : List Item) → DocumentItems inner d is → ⊥) → ⊥
  in_document inner (document o span ns) f =
      in_place (GapItems (without_bom (or_empty_document o).leading)) (λ is a. in_nodes inner ns (λ js b. in_place (GapItems (or_empty_document o).trailing) (λ ks c. f (is ++ js ++ ks) (of_document a b c))))

pub laid_out : (s : Settings) (level : ℕ) (d x : Document) → s.entry_autoformate_keep ≡ false → s.no_comments ≡ false → DocumentKeepsNone d → IsFormattedDocument s level d x → (is : List Item) × DocumentItems false d is
laid_out s level d x keep with unflagged f = document_has_items s keep with level d x f unflagged

pub node_laid_out : (s : Settings) (level : ℕ) (n x : Node) → s.entry_autoformate_keep ≡ false → s.no_comments ≡ false → NodeKeepsNone n → IsFormattedNode s level n x → (is : List Item) × NodeItems false n is
node_laid_out s level n x keep with unflagged f = node_has s keep with level n x f unflagged
