-- The comments and slashdashed pieces in a document, in the order of printing: if `inner` is true all of them, else those
-- that are not inside an entry or a type.
use Rattle.std.specs.Prelude.{◌≡◌, Bool, true, false, List, [], ◌∷◌, ◌++◌, Option, Some, None, map}
use Rattle.kdl_text.specs.Chars.{Text}
use Rattle.kdl_text.specs.declared.span.SourceSpan.{SourceSpan}
use Rattle.kdl_entry.specs.Tree.{Entry, EntryFormat, Identifier}
use Rattle.kdl_grammar.specs.Laid.{LaidDocument}
use Rattle.kdl_grammar.specs.Tree.{DocumentFormat, Head, Node, node, Children, no_children, children, Document, document, Nodes, none, first}
use Rattle.kdl_layout.specs.Items.{Item, GapItems, before_entry, before_block, PlaceItems}
use Rattle.kdl_layout.specs.Lacks.{AreNodeSpaces}
use Rattle.kdl_layout.specs.Written.{line_text, on_line}
use Rattle.kdl_layout.specs.Formatted.{or_empty, or_empty_document}
use Rattle.kdl_layout.specs.Kept.{last_place, without_bom, entry_leading}
use Rattle.kdl_layout.specs.Respelled.{TypeTexts, entry_type_texts, node_type_texts}
pub use Rattle.kdl_layout.specs.Kept.{EndItems, ItemsIn}
use Rattle.kdl_layout.specs.Parts.{has_block}

-- the comments of a text between two parts of an entry or a type: node-spaces, with LF for a CR at their end
abbrev pub InnerItems : Text → List Item → Type 0
InnerItems t is = AreNodeSpaces (line_text t) × PlaceItems (before_entry true) (line_text t) is

-- the same if `inner` is true, else none
abbrev pub InnerIn : Bool → Text → List Item → Type 0
InnerIn false t is = is ≡ []
InnerIn true t is = ItemsIn (InnerItems t) is

-- those around the `=` after a key, if there is one
abbrev pub KeyItems : Bool → Option Identifier → Text → Text → List Item → Type 0
KeyItems inner None after_key after_eq is = is ≡ []
KeyItems inner (Some i) after_key after_eq is = (js ks : List Item) × InnerIn inner after_key js × InnerIn inner after_eq ks × (is ≡ js ++ ks)

-- those inside a type and after it, if there is one
abbrev pub TypeItems : Bool → Option Identifier → TypeTexts → List Item → Type 0
TypeItems inner None x is = is ≡ []
TypeItems inner (Some i) x is = (js ks ls : List Item) × InnerIn inner x.before_name js × InnerIn inner x.after_name ks × InnerIn inner x.after ls × (is ≡ js ++ ks ++ ls)

-- those inside an entry
abbrev pub InsideItems : Bool → Option Identifier → Option Identifier → Option EntryFormat → List Item → Type 0
InsideItems inner name ty None is = is ≡ []
InsideItems inner name ty (Some f) is = (js ks : List Item) × KeyItems inner name f.after_key f.after_eq js × TypeItems inner ty (entry_type_texts f) ks × (is ≡ js ++ ks)

-- the items before an entry and inside it
abbrev pub EntryItems : Bool → Entry → List Item → Type 0
EntryItems inner e is = (js ks : List Item) × ItemsIn (PlaceItems (before_entry false) (entry_leading e.format)) js × InsideItems inner e.name e.ty e.format ks × (is ≡ js ++ ks)

pub data EntriesItems (inner : Bool) : List Entry → List Item → Type 0 where
  no_entry : EntriesItems inner [] []
  an_entry : {e : Entry} {es : List Entry} {is js : List Item} → EntryItems inner e is → EntriesItems inner es js → EntriesItems inner (e ∷ es) (is ++ js)

-- the items inside the type of a node and after it, and of its entries
abbrev pub HeadItems : Bool → Head → List Item → Type 0
HeadItems inner h is = (js ks : List Item) × TypeItems inner h.ty (node_type_texts (or_empty h.format)) js × EntriesItems inner h.entries ks × (is ≡ js ++ ks)

mutual
  -- the items before the node, of its type and its entries, before its block and in it, before and in its terminator, after the node
  pub data NodeItems (inner : Bool) : Node → List Item → Type 0 where
    of_node : {h : Head} {k : Children} {a b c d e f : List Item} → ItemsIn (GapItems (or_empty h.format).leading) a → HeadItems inner h b → ChildrenItems inner (or_empty h.format).before_children k c
        → ItemsIn (PlaceItems (last_place (has_block k)) (or_empty h.format).before_terminator) d → EndItems (or_empty h.format).terminator e → ItemsIn (GapItems (or_empty h.format).trailing) f
        → NodeItems inner (node h k) (a ++ b ++ c ++ d ++ e ++ f)

  -- the items before the block and in it
  pub data ChildrenItems (inner : Bool) : Text → Children → List Item → Type 0 where
    no_block : {t : Text} → ChildrenItems inner t no_children []
    block : {t : Text} {d : Document} {is js : List Item} → ItemsIn (PlaceItems before_block t) is → DocumentItems inner d js → ChildrenItems inner t (children d) (is ++ js)

  pub data NodesItems (inner : Bool) : Nodes → List Item → Type 0 where
    no_node : NodesItems inner none []
    a_node : {n : Node} {ns : Nodes} {is js : List Item} → NodeItems inner n is → NodesItems inner ns js → NodesItems inner (first n ns) (is ++ js)

  -- the items before the nodes, in them, and after them
  pub data DocumentItems (inner : Bool) : Document → List Item → Type 0 where
    of_document : {f : Option DocumentFormat} {span : SourceSpan} {ns : Nodes} {a b c : List Item} → ItemsIn (GapItems (without_bom (or_empty_document f).leading)) a → NodesItems inner ns b
        → ItemsIn (GapItems (or_empty_document f).trailing) c → DocumentItems inner (document f span ns) (a ++ b ++ c)

-- each document that is laid in the text has the items of this document, each as it is on a line; with `inner` all items
-- (the laws `has_list`, `laid_out_has_list` and `one_list` of kdl_laws: there is exactly one such list)
abbrev pub ItemsStay : Bool → Document → Text → Type 0
ItemsStay inner d t = (e : Document) (is : List Item) → DocumentItems inner d is → LaidDocument e t → DocumentItems inner e (map on_line is)

-- the same for a node that is printed on its own
abbrev pub NodeItemsStay : Bool → Node → Text → Type 0
NodeItemsStay inner n t = (e : Document) (is : List Item) → NodeItems inner n is → LaidDocument e t → DocumentItems inner e (map on_line is)

-- each document that is laid in the text has the items of this document that are not inside an entry or a type, each as it is on a line
abbrev pub CommentsStay : Document → Text → Type 0
CommentsStay d t = ItemsStay false d t

abbrev pub NodeCommentsStay : Node → Text → Type 0
NodeCommentsStay n t = NodeItemsStay false n t

-- each document that is laid in the text has all items of this document, each as it is on a line
abbrev pub AllCommentsStay : Document → Text → Type 0
AllCommentsStay d t = ItemsStay true d t

abbrev pub NodeAllCommentsStay : Node → Text → Type 0
NodeAllCommentsStay n t = NodeItemsStay true n t
