-- A document with the forms that its entries print has its data, and prints it where it is laid.
use Rattle.std.proofs.Common.{◌≡◌, ℕ, zero, suc, ◌+◌, ◌<◌, Bool, false, List, [], ◌∷◌, ◌++◌, map, length, Option, Some, None, option_map, refl, sym, ap, subst, ◌∙◌, arith, ◌⊎◌, inl, inr}
use Rattle.std.specs.Prelude.{slice_index_or}
use Rattle.std.specs.List.{All, Contains}
use Rattle.kdl_text.specs.Chars.{Text}
use Rattle.kdl_text.specs.declared.span.SourceSpan.{SourceSpan}
use Rattle.kdl_entry.specs.Formless.{IsFormless, formed_identifier, formed}
use Rattle.kdl_entry.specs.Print.{print_type}
use Rattle.kdl_entry.specs.Tree.{Identifier, EntryFormat, Entry, without_span, without_spans_and_flag, entry_data}
use Rattle.kdl_entry.proofs.Laying.FormedPrints.{same_data, same_printed, space_before}
use Rattle.kdl_entry.proofs.Laying.FormlessLaid.{formless_stands}
use Rattle.kdl_entry.proofs.Laying.EntryStands.{CanStand, own_stands, own_type, own_identifier}
use Rattle.kdl_grammar.specs.Data as data'
use Rattle.kdl_grammar.specs.Edited.{IsEdited, IsFormed, EachNode, each_node, EachChildren, EachDocument, each_document, EachNodes}
use Rattle.kdl_grammar.specs.Grammar.{IsDocument}
use Rattle.kdl_grammar.specs.Laid.{LaidEntries, no_entry, an_entry, LaidNode, laid_node, LaidChildren, no_block, a_block, LaidNodes, no_node, a_node, LaidContent, without_nodes, with_nodes, LaidDocumentAs}
use Rattle.kdl_grammar.specs.Laws.{ReadsBack, EditedIsLaid}
use Rattle.kdl_grammar.specs.Print.{after_brace, before_brace, before_block, end_text, format_of, print_piece, print_pieces, print_head, head_text, print_tail, print_node, print_nodes, print_document}
use Rattle.kdl_grammar.specs.Tree.{NodeFormat, Head, Node, node, Children, no_children, children, Document, document, Nodes, none, first, node_data, children_data, document_data, nodes_data}
use Rattle.kdl_grammar.proofs.Laying.LaidIsDerived.{document_of}
use Rattle.kdl_grammar.proofs.Laying.Relaid.{AllStand, none_stands, one_stands, CanReplace, laid_head, Replaces, relaid}

-- in a node it prints the same
piece_printed : (e : Entry) → print_piece (formed e) ≡ print_piece e
piece_printed e = go e.format
  where
    go : (o : Option EntryFormat) → print_piece (formed (record e { format = o })) ≡ print_piece (record e { format = o })
    go (Some f) = same_printed e f
    go None = space_before (record e { format = None }) refl

pieces_printed : (es : List Entry) → print_pieces (map formed es) ≡ print_pieces es
pieces_printed [] = refl
pieces_printed (e ∷ es) = ap (λ (t : Text). t ++ print_pieces (map formed es)) (piece_printed e) ∙ ap (λ (t : Text). print_piece e ++ t) (pieces_printed es)

same_entries : (es : List Entry) → map entry_data (map formed es) ≡ map entry_data es
same_entries [] = refl
same_entries (e ∷ es) = let a = same_data e in let b = same_entries es in cc

formed_value : (i : Option Identifier) → option_map (λ (x : Identifier). x.value) (option_map formed_identifier i) ≡ option_map (λ (x : Identifier). x.value) i
formed_value None = refl
formed_value (Some i) = refl

formed_type : (i : Option Identifier) (b a : Text) → print_type (option_map formed_identifier i) b a ≡ print_type i b a
formed_type None b a = refl
formed_type (Some i) b a = refl

-- the head with the spellings and the forms that it prints
abbrev formed_head : Head → Head
formed_head h = record h { ty = option_map formed_identifier h.ty; name = formed_identifier h.name; entries = map formed h.entries }

-- all data stay
mutual
  node_same : {x y : Node} → EachNode IsFormed x y → node_data y ≡ node_data x
  node_same (each_node {h = h} {k = k} {k' = k'} c d) =
      let t = formed_value h.ty in
      let e = same_entries h.entries in
      let s = children_same d in
      let own : node_data (node (formed_head h) k') ≡ node_data (node h k) = cc in
      ap (λ (z : Head). node_data (node z k')) c ∙ own

  children_same : {x y : Children} → EachChildren IsFormed x y → children_data y ≡ children_data x
  children_same EachChildren.without_block = refl
  children_same (EachChildren.with_block d) = let e = document_same d in cc

  document_same : {x y : Document} → EachDocument IsFormed x y → document_data y ≡ document_data x
  document_same (each_document d) = nodes_same d

  nodes_same : {x y : Nodes} → EachNodes IsFormed x y → nodes_data y ≡ nodes_data x
  nodes_same EachNodes.last = refl
  nodes_same (EachNodes.next d ds) = let e = node_same d in let k = nodes_same ds in cc

-- the forms filled in
mutual
  formed_node : Node → Node
  formed_node (node h k) = node (formed_head h) (formed_children k)

  formed_children : Children → Children
  formed_children no_children = no_children
  formed_children (children d) = children (formed_document d)

  formed_document : Document → Document
  formed_document (document f at ns) = document f at (formed_nodes ns)

  formed_nodes : Nodes → Nodes
  formed_nodes none = none
  formed_nodes (first n ns) = first (formed_node n) (formed_nodes ns)

mutual
  unfolding formed_node formed_children formed_document formed_nodes

  is_formed_node : (x : Node) → EachNode IsFormed x (formed_node x)
  is_formed_node (node h k) = each_node refl (is_formed_children k)

  is_formed_children : (k : Children) → EachChildren IsFormed k (formed_children k)
  is_formed_children no_children = EachChildren.without_block
  is_formed_children (children d) = EachChildren.with_block (is_formed_document d)

  is_formed_document : (d : Document) → EachDocument IsFormed d (formed_document d)
  is_formed_document (document f at ns) = each_document (is_formed_nodes ns)

  is_formed_nodes : (ns : Nodes) → EachNodes IsFormed ns (formed_nodes ns)
  is_formed_nodes none = EachNodes.last
  is_formed_nodes (first n ns) = EachNodes.next (is_formed_node n) (is_formed_nodes ns)

-- one edit after another
module _ (R S : Head → Head → Type 0) where
  Both : Head → Head → Type 0
  Both h k = (m : Head) × R h m × S m k

  mutual
    unfolding Both

    both_node : {x y z : Node} → EachNode R x y → EachNode S y z → EachNode Both x z
    both_node (each_node {h' = h'} c d) (each_node c' d') = each_node (h', c, c') (both_children d d')

    both_children : {x y z : Children} → EachChildren R x y → EachChildren S y z → EachChildren Both x z
    both_children EachChildren.without_block EachChildren.without_block = EachChildren.without_block
    both_children (EachChildren.with_block d) (EachChildren.with_block e) = EachChildren.with_block (both_document d e)

    both_document : {x y z : Document} → EachDocument R x y → EachDocument S y z → EachDocument Both x z
    both_document (each_document d) (each_document e) = each_document (both_nodes d e)

    both_nodes : {x y z : Nodes} → EachNodes R x y → EachNodes S y z → EachNodes Both x z
    both_nodes EachNodes.last EachNodes.last = EachNodes.last
    both_nodes (EachNodes.next d ds) (EachNodes.next e es) = EachNodes.next (both_node d e) (both_nodes ds es)

-- an entry that is one of those laid, spans and the flag aside, may occur
contained_stands : {exact : Bool} {whole : Text} {es : List Entry} {s r : Text} → LaidEntries exact whole es s r → (e : Entry)
    → (k : ℕ) → k < length (map without_spans_and_flag es) → slice_index_or (map without_spans_and_flag es) k (without_spans_and_flag e) ≡ without_spans_and_flag e → CanStand (formed e)
contained_stands no_entry e k h x = absurd (omega arith)
contained_stands (an_entry {e = y} d ds) e zero h x = own_stands {e = y} e x d
contained_stands (an_entry d ds) e (suc k) h x = contained_stands ds e k (omega arith) x

-- own entries and new ones may occur
chosen_stand : {exact : Bool} {whole : Text} {old : List Entry} {s r : Text} → LaidEntries exact whole old s r → (es : List Entry)
    → All (λ (e : Entry). Contains (map without_spans_and_flag old) (without_spans_and_flag e) ⊎ IsFormless e) es → AllStand (map formed es)
chosen_stand d [] c = none_stands
chosen_stand {old = old} d (e ∷ es) c = one_stands (go (c zero e (omega arith))) (chosen_stand d es (λ k x h. c (suc k) x (omega arith)))
  where
    go : Contains (map without_spans_and_flag old) (without_spans_and_flag e) ⊎ IsFormless e → CanStand (formed e)
    go (inl (k, h, x)) = contained_stands d e k h x
    go (inr f) = λ whole u v. formless_stands whole e u f v

replaces : Replaces (Both IsEdited IsFormed)
unfolding Both
replaces exact whole h k (laid_head y i es) (m, c, f) = subst (λ (z : Head). CanReplace h z) (sym f) (record {
  ty = c.ty ∙ ap (λ (z : Option Identifier). option_map without_span z) (sym (own_type y m.ty c.ty));
  name = c.name ∙ ap without_span (sym (own_identifier i m.name c.name));
  format = c.format;
  entries = chosen_stand es m.entries c.entries;
})

tail_of : Option NodeFormat → List Entry → Document → ℕ → Text
tail_of o es d depth = before_block o es ++ (123 ∷ after_brace (format_of d)) ++ print_document d (depth + 1) ++ before_brace (format_of d) depth ++ (125 ∷ end_text o)

head_printed : (h : Head) (o : Option NodeFormat) (depth : ℕ) → head_text (formed_head h).ty (formed_head h).name o depth ≡ head_text h.ty h.name o depth
head_printed h None depth = rw (formed_type h.ty [] []) refl
head_printed h (Some f) depth = rw (formed_type h.ty f.before_ty_name f.after_ty_name) refl

-- where a document is laid with the forms that its entries print, it prints the same without them
module _ (whole : Text) where
  mutual
    unfolding tail_of

    node_print : {q z w : Text} {at : SourceSpan} {x y : Node} {s r : Text} (depth : ℕ) → LaidNode false whole q z w at y s r → EachNode IsFormed x y → print_node x depth ≡ print_node y depth
    node_print depth (laid_node t i e k) (each_node {h = h} {h' = h'} {k = c} {k' = c'} f d) =
        let format : h.format ≡ h'.format = sym (ap (λ (z : Head). z.format) f) in
        let head : print_head h depth ≡ print_head h' depth = sym (ap (λ (z : Head). print_head z depth) f ∙ head_printed h h.format depth) in
        let pieces : print_pieces h.entries ≡ print_pieces h'.entries = sym (ap (λ (z : Head). print_pieces z.entries) f ∙ pieces_printed h.entries) in
        let tail : print_tail h c depth ≡ print_tail h' c' depth = tail_print h h' _ format refl depth k d in
        rw (head, pieces, tail) refl

    tail_print : {b l : Text} {k k' : Children} {s r : Text} (h h' : Head) (f : NodeFormat) → h.format ≡ Some f → h'.format ≡ Some f → (depth : ℕ) → LaidChildren false whole k' b l s r
        → EachChildren IsFormed k k' → print_tail h k depth ≡ print_tail h' k' depth
    tail_print h h' f a b depth (no_block c) EachChildren.without_block = ap end_text (a ∙ sym b)
    tail_print h h' f a b depth (a_block {d = d'} c n l) (EachChildren.with_block {d = d} e) =
        let same : print_document d (depth + 1) ≡ print_document d' (depth + 1) = document_print (depth + 1) n e in
        let format = same_format e in
        ap (λ (o : Option NodeFormat). tail_of o h.entries d depth) a ∙ rw (same, format) refl ∙ ap (λ (o : Option NodeFormat). tail_of o h'.entries d' depth) (sym b)

    nodes_print : {xs ys : Nodes} {s r : Text} (depth : ℕ) → LaidNodes false whole ys s r → EachNodes IsFormed xs ys → print_nodes xs depth ≡ print_nodes ys depth
    nodes_print depth no_node EachNodes.last = refl
    nodes_print depth (a_node g x e z ns) (EachNodes.next d ds) = let a = node_print depth x d in let b = nodes_print depth ns ds in rw (a, b) refl

    document_print : {x y : Document} {s r : Text} (depth : ℕ) → LaidContent false whole y s r → EachDocument IsFormed x y → print_document x depth ≡ print_document y depth
    document_print depth (without_nodes g z) (each_document EachNodes.last) = refl
    document_print depth (with_nodes ns g z) (each_document d) = let a = nodes_print depth ns d in rw a refl

    same_format : {x y : Document} → EachDocument IsFormed x y → format_of x ≡ format_of y
    same_format (each_document d) = refl

document_printed : {x y : Document} {t : Text} → LaidDocumentAs false y t → EachDocument IsFormed x y → print_document x 0 ≡ print_document y 0
document_printed {t = t} (LaidDocumentAs.no_bom c) e = document_print t 0 c e
document_printed (LaidDocumentAs.after_bom (without_nodes g z)) (each_document EachNodes.last) = refl
document_printed {t = t} (LaidDocumentAs.after_bom (with_nodes ns g z)) (each_document d) = let a = nodes_print t 0 ns d in rw a refl

pub reads_back : ReadsBack
reads_back d f x l = subst (λ (y : data'.Nodes). IsDocument (print_document d 0) y) (document_same x) (document_of false f (print_document d 0) l)

pub edited_is_laid : EditedIsLaid
edited_is_laid exact t d e l c = (reads_back e (formed_document e) (is_formed_document e) (laid (formed_document e) (is_formed_document e)), laid)
  where
    laid : (f : Document) → EachDocument IsFormed e f → LaidDocumentAs false f (print_document e 0)
    laid f x =
        let y = relaid (Both IsEdited IsFormed) replaces exact t d f l (both_document IsEdited IsFormed c x) in
        subst (λ (s : Text). LaidDocumentAs false f s) (sym (document_printed y x)) y
