-- What is laid in a text reads back wherever it may be.
use Rattle.std.proofs.Common.{◌≡◌, ℕ, Bool, true, false, List, [], ◌∷◌, ◌++◌, length, Option, Some, option_map, refl, sym, ap, subst, ◌∙◌, append_assoc, append-nil, length-append, arith}
use Rattle.std.proofs.lemmas.List.Elements.{All-cons, All-nil}
use Rattle.std.proofs.lemmas.List.{append_cancel_right}
use Rattle.std.specs.List.{All}
use Rattle.kdl_text.specs.Chars.{Text, Star}
use Rattle.kdl_text.specs.Internal.Here.{first as first_char}
use Rattle.kdl_text.specs.Trivia.{LineSpace, ValueEnd}
use Rattle.kdl_text.specs.declared.span.SourceSpan.{SourceSpan}
use Rattle.kdl_value.specs.Data.{Value}
use Rattle.kdl_entry.specs.Data as entry_data'
use Rattle.kdl_entry.specs.Entries.{IsPlainValue}
use Rattle.kdl_entry.specs.Laid.{LaidIdentifier, LaidType, LaidKey, LaidItem, item, LaidEntry, laid_entry}
use Rattle.kdl_entry.specs.Places.{Is, EntryLeading}
use Rattle.kdl_entry.specs.Print.{print_identifier, print_type, print_key}
use Rattle.kdl_entry.specs.Tree.{Identifier, Entry}
use Rattle.kdl_entry.proofs.Laying.LaidIsDerived.{string_of, type_of, item_of}
use Rattle.kdl_entry.proofs.Laying.LaidPrints.{identifier_printed, type_printed, key_printed}
use Rattle.kdl_entry.proofs.Laying.Respanned.{free_identifier, free_type, free_entry}
use Rattle.kdl_entry.proofs.Moving.EntryEnds.{end_plain}
use Rattle.kdl_entry.proofs.Moving.EntryMoves.{move_identifier, move_laid_type, move_plain, is_move_value, punctuation_end, is_move}
use Rattle.kdl_syntax.proofs.Moving.Puts.{same, same_piece, first_piece}
use Rattle.kdl_grammar.specs.Data as data'
use Rattle.kdl_grammar.specs.Grammar.{Terminator, IsNode, named, AfterName, Gap, AreNodes}
use Rattle.kdl_grammar.specs.Laid.{node_format, LaidEntries, no_entry, an_entry, LaidNode, laid_node, LaidChildren, no_block as laid_no_block, a_block as laid_a_block, LaidNodes, no_node as no_laid, a_node, LaidContent, without_nodes, with_nodes as laid_nodes, LaidDocumentAs, with_bom, LaidNodeTextAs, laid_node_text}
use Rattle.kdl_grammar.specs.Places.{BeforeChildren}
use Rattle.kdl_grammar.specs.ReadsBack.{Rests, Anything, TextEnd, BlockEnd, MayFollow, EntryReads, name_text, HeadReads, terminator_text, Terminates, BeforeTerminator, EndReads, last_rests, NodeReads, reads, ChildrenRead, no_block, a_block, NodesRead, last_node, next_node, ContentReads, one_text, with_nodes, BlockReads, block, DocumentReads}
use Rattle.kdl_grammar.specs.Tree.{NodeFormat, Head, Node, Children, Document, Nodes, none, first}
use Rattle.kdl_grammar.proofs.Laying.LaidIsDerived.{first_entry, node_of}
use Rattle.kdl_grammar.proofs.Moving.Moves.{move_before, move_after, move_gap, move_terminator, terminator_end}
use Rattle.kdl_grammar.proofs.Reading.Complete.{lines_gap}
use Rattle.kdl_grammar.proofs.ReadingBack.Reads.{gap_nodes}
use Rattle.kdl_grammar.proofs.ReadingBack.Following.{Follows, put_follows, shift_leading, shift_type, shift_key, is_shift}
use Rattle.kdl_grammar.proofs.ReadingBack.Closing.{terminator_closes, closing_terminates, begins_here, Front, value_front, node_front, close_gap, end_gap, leading_ends}

-- what is in its own text
here : {R : Text → Text → Type 0} {p s r : Text} → Is R p s r → R (p ++ r) r
here {R = R} {r = r} d = subst (λ (x : Text). R x r) d.text d.is

-- before a value
value_follows : {s r t : Text} {v : Value} → Front s → IsPlainValue true t r v → Follows t s
value_follows c d = record { lf = λ e. (value_front d).lf; end = λ e. absurd (c.some e) }

entry_parts : (l k y h r : Text) → l ++ (k ++ (y ++ (h ++ r))) ≡ l ++ k ++ y ++ h ++ r
entry_parts l k y h r = simp append_assoc

-- an entry
laid_front : {q after_key after_eq before after following p s t u : Text} {key ty : Option Identifier} → Is EntryLeading q p s → LaidKey false [] key after_key after_eq s t → LaidType false [] ty before after following t u → Front u
    → {r w x : Text} {v : Value} {es : List entry_data'.Entry} {k : data'.Children} → IsPlainValue true r w v → AfterName true w x es k
    → AfterName true (q ++ print_key key after_key after_eq ++ print_type ty before after ++ following ++ r) x (record { key = option_map (λ (i : Identifier). i.value) key; ty = option_map (λ (i : Identifier). i.value) ty; value = v } ∷ es) k
laid_front {q = q} {after_key = after_key} {after_eq = after_eq} {before = before} {after = after} {following = following} {key = key} {ty = ty} l k y c {r = r} {w = w} {x = x} {v = v} {es = es} {k = kids} d rest =
    let f = value_follows c d in
    let Y = shift_type [] y in
    let K = shift_key [] k in
    let L = shift_leading l.is in
    let y' = Y.there r f in
    let fy = put_follows Y.at r f in
    let k' = K.there (Y.at.put r) fy in
    let fk = put_follows K.at (Y.at.put r) fy in
    let l' = is_shift L l (K.at.put (Y.at.put r)) fk in
    let i : LaidItem false [] q [] (record { offset = 0; len = 0 }) _ (K.at.put (Y.at.put r)) w = item {repr = (end_plain d).piece} k' y' (record { is = d; text = (end_plain d).text }) in
    let text = l'.text ∙ ap (λ (z : Text). q ++ z) (key_printed false [] k' ∙ ap (λ (z : Text). print_key key after_key after_eq ++ z) (type_printed false [] y')) ∙ entry_parts q (print_key key after_key after_eq) (print_type ty before after) following r in
    subst (λ (z : Text). AfterName true z x (record { key = option_map (λ (i : Identifier). i.value) key; ty = option_map (λ (i : Identifier). i.value) ty; value = v } ∷ es) kids) text
    (first_entry l'.is (item_of false [] i) rest)

some_front : (s p r : Text) → s ≡ p ++ r → (r ≡ [] → ⊥) → s ≡ [] → ⊥
some_front s [] r e h f = h (sym e ∙ f)
some_front s (c ∷ p) r e h f = cc

begins_parts : (l k y h r : Text) → l ++ (k ++ y ++ h ++ r) ≡ l ++ k ++ y ++ h ++ r
begins_parts l k y h r = simp append_assoc

free_reads : {e : Entry} {s r : Text} → LaidEntry false [] e s r → EntryReads e
free_reads (laid_entry {leading = q} {s = s} {t = t} l (item {after_key = after_key} {after_eq = after_eq} {before = before} {after = after} {following = following} {repr = repr} {t = t'} {u = u} {key = key} {ty = ty} {v = v} k y d) x) =
    let c = value_front d.is in
    let m = leading_ends l.is (some_front t (print_key key after_key after_eq) t' (key_printed false [] k) (some_front t' (print_type ty before after) (following ++ u) (type_printed false [] y) (some_front (following ++ u) following u refl c.some))) in
    let piece : m.piece ≡ q = append_cancel_right m.piece q t (sym m.text ∙ l.text) in
    record {
      begins = λ r. subst (λ (z : Text). ValueEnd true z) (begins_parts q (print_key key after_key after_eq) (print_type ty before after) following r)
          (subst (λ (z : Text). ValueEnd true (z ++ (print_key key after_key after_eq ++ print_type ty before after ++ following ++ r))) piece (m.ends (print_key key after_key after_eq ++ print_type ty before after ++ following ++ r)));
      front = λ p rest. laid_front l k y c p rest;
      value = λ e. here (is_move_value (move_plain d.is) d _ e);
      trailing = refl;
    }

pub entry_reads : {exact : Bool} {whole : Text} {e : Entry} {s r : Text} → LaidEntry exact whole e s r → EntryReads e
entry_reads {exact = exact} {whole = whole} d = free_reads (free_entry exact whole [] d)

entries_read : {exact : Bool} {whole : Text} {es : List Entry} {s r : Text} → LaidEntries exact whole es s r → All EntryReads es
entries_read no_entry = All-nil EntryReads
entries_read (an_entry {e = e} {es = es} d ds) = All-cons EntryReads e es (entry_reads d) (entries_read ds)

name_parts : (y h i r : Text) → y ++ (h ++ (i ++ r)) ≡ y ++ h ++ i ++ r
name_parts y h i r = simp append_assoc

-- a type and a name before any rest
record NamePut (h : Head) (f : NodeFormat) (s : Text) : Type 0 where
  put : Text → Text
  text : (r : Text) → put r ≡ name_text h f ++ r
  full : (r : Text) → first_char (put r) ≡ first_char s
  is : {r t : Text} {es : List entry_data'.Entry} {k : data'.Children} → ValueEnd true r → AfterName true r t es k → IsNode true (put r) t (data'.node (option_map (λ (i : Identifier). i.value) h.ty) h.name.value es k)

name_put : (h : Head) (f : NodeFormat) {s t u : Text} → LaidType false [] h.ty f.before_ty_name f.after_ty_name f.after_ty s t → LaidIdentifier false [] h.name t u → NamePut h f s
name_put h f y i =
    let Y = move_laid_type [] y in
    let I = move_identifier [] i in
    record {
      put = λ r. Y.at.put (I.at.put r);
      text = λ r. type_printed false [] (Y.there (I.at.put r) (I.full r))
          ∙ ap (λ (x : Text). print_type h.ty f.before_ty_name f.after_ty_name ++ (f.after_ty ++ x)) (same_piece (print_identifier h.name) I.at (identifier_printed false [] i) r)
          ∙ name_parts (print_type h.ty f.before_ty_name f.after_ty_name) f.after_ty (print_identifier h.name) r;
      full = λ r. same Y.at (I.at.put r) (I.full r);
      is = λ e d. named_at y i e d;
    }
  where
    named_at : {s t u r x : Text} {es : List entry_data'.Entry} {k : data'.Children} (y : LaidType false [] h.ty f.before_ty_name f.after_ty_name f.after_ty s t) (i : LaidIdentifier false [] h.name t u) → ValueEnd true r → AfterName true r x es k
        → IsNode true ((move_laid_type [] y).at.put ((move_identifier [] i).at.put r)) x (data'.node (option_map (λ (i : Identifier). i.value) h.ty) h.name.value es k)
    named_at {r = r} y i e d =
        let I = move_identifier [] i in
        named (type_of false [] ((move_laid_type [] y).there (I.at.put r) (I.full r))) (string_of false [] (I.there r e)) d

head_name : (h : Head) (f : NodeFormat) {s : Text} → NamePut h f s → {r t : Text} {es : List entry_data'.Entry} {k : data'.Children} → ValueEnd true r → AfterName true r t es k
    → IsNode true (name_text h f ++ r) t (data'.node (option_map (λ (i : Identifier). i.value) h.ty) h.name.value es k)
head_name h f p {r = r} {t = t} {es = es} {k = k} e d =
    subst (λ (x : Text). IsNode true x t (data'.node (option_map (λ (i : Identifier). i.value) h.ty) h.name.value es k)) (p.text r) (p.is e d)

head_reads : (h : Head) (f : NodeFormat) {q s t u : Text} → Is (Gap true) f.leading q s → LaidType false [] h.ty f.before_ty_name f.after_ty_name f.after_ty s t → LaidIdentifier false [] h.name t u → All EntryReads h.entries → HeadReads h f
head_reads h f g y i c =
    let p = name_put h f y i in
    record {
      leading = λ r. subst (λ (x : Text). Gap true (f.leading ++ x) x) (p.text r) (here (is_move (move_gap g.is) g (p.put r) (p.full r)));
      name = λ e d. head_name h f p e d;
      entries = c;
    }

-- a terminator before what is neither the end nor a `}` ends by itself
record OwnEnd (z u : Text) : Type 0 where
  full : (r : Text) → first_char (z ++ r) ≡ first_char u
  is : Terminates Anything z

own_end : (z : Text) {u v : Text} → Is Terminator z u v → (v ≡ [] → ⊥) → ((t : Text) → v ≡ 125 ∷ t → ⊥) → OwnEnd (z ++ []) u
own_end z {u = u} {v = v} e some close =
    let m = terminator_closes e.is some close in
    let piece : m.piece ≡ z ++ [] = append_cancel_right m.piece z v (sym m.text ∙ e.text) ∙ sym (append-nil z) in
    subst (λ (x : Text). OwnEnd x u) piece (record { full = m.full; is = closing_terminates m })

-- a terminator before each rest that begins like the old one
record SameEnd (P : Rests) (z u : Text) : Type 0 where
  full : (r : Text) → MayFollow P r → first_char (z ++ r) ≡ first_char u
  is : Terminates P z

same_end : (P : Rests) (z : Text) {u v : Text} → Is Terminator z u v → ((r : Text) → MayFollow P r → first_char r ≡ first_char v) → SameEnd P (z ++ []) u
same_end P z {u = u} {v = v} e h = subst (λ (x : Text). SameEnd P x u) (sym (append-nil z)) (record {
  full = λ r p. first_piece z r v (h r p) ∙ ap first_char (sym e.text);
  is = λ r s xs p x d. (r, here (is_move (move_terminator e.is) e r (h r p)), d);
})

longer : (c : ℕ) (t r : Text) → r ≡ (c ∷ t) ++ r → ⊥
longer c t r e = let n : length r ≡ length ((c ∷ t) ++ r) = ap length e in absurd (omega (arith, n, length-append t r))

-- before the rests P the text begins like r
abbrev Like : Rests → Text → Type 0
Like P r = (u : Text) → MayFollow P u → first_char u ≡ first_char r

module _ (exact : Bool) (whole : Text) where
  place_reads : {k : Children} {b z s u : Text} → LaidChildren exact whole k b z s u → (x : Text) → first_char x ≡ first_char u → ValueEnd true x → BeforeTerminator k (z ++ x) x
  place_reads (laid_no_block c) x h e = let m = move_before c.is in subst (λ (y : Text). BeforeChildren y x) (same_piece _ m.at c.text x) (m.there x h e)
  place_reads (laid_a_block c d l) x h e = here (is_move (move_after l.is) l x h)

  end_reads : (P : Rests) (k : Children) (f : NodeFormat) {b s u : Text} → LaidChildren exact whole k b f.before_terminator s u → SameEnd P (terminator_text f) u → EndReads P k f
  end_reads P k f c m = record { place = λ r p t. place_reads c (terminator_text f ++ r) (m.full r p) (terminator_end t); terminator = m.is }

  brace_place : {b s t : Text} (x : Text) → Is BeforeChildren b s (123 ∷ t) → BeforeChildren (b ++ (123 ∷ x)) (123 ∷ x)
  brace_place x c = let m = move_before c.is in subst (λ (y : Text). BeforeChildren y (123 ∷ x)) (same_piece _ m.at c.text (123 ∷ x)) (m.there (123 ∷ x) refl (punctuation_end 123 refl))

  gap_before : (P : Rests) {q s r : Text} → Is (Gap true) q s r → Like P r → (u : Text) → MayFollow P u → Gap true (q ++ u) u
  gap_before P g h u p = here (is_move (move_gap g.is) g u (h u p))

  -- a node after a gap is neither at the end nor before a `}`
  front_some : {q v t : Text} → Is (Gap true) q v t → Front t → v ≡ [] → ⊥
  front_some {t = t} g c e = c.some (end_gap (subst (λ (x : Text). Gap true x t) e g.is))

  front_close : {q v t : Text} → Is (Gap true) q v t → Front t → (w : Text) → v ≡ 125 ∷ w → ⊥
  front_close {t = t} g c w e = begins_here 125 t w (close_gap w (subst (λ (x : Text). Gap true x t) e g.is)) c.close

  -- nor does a text that is a gap
  text_close : {c : ℕ} {q v r : Text} → Is (Gap true) (c ∷ q) v r → (w : Text) → v ≡ 125 ∷ w → ⊥
  text_close {c = c} {q = q} {r = r} g w e = longer c q r (close_gap w (subst (λ (x : Text). Gap true x r) e g.is) ∙ sym e ∙ g.text)

  text_some : {c : ℕ} {q v r : Text} → Is (Gap true) (c ∷ q) v r → v ≡ [] → ⊥
  text_some g e = let f = g.text in cc

  last_end : (P : Rests) (trailing z : Text) {u v r : Text} → Is Terminator z u v → Is (Gap true) trailing v r → Like P r → SameEnd (last_rests trailing P) (z ++ []) u
  last_end P [] z e g h = same_end P z e (λ r p. h r p ∙ ap first_char (sym g.text))
  last_end P (c ∷ t) z e g h = let m = own_end z e (text_some g) (text_close g) in record { full = λ r p. m.full r; is = m.is }

  mutual
    node_reads : {P : Rests} {q z w p s u : Text} {at : SourceSpan} {x : Node} → LaidNode exact whole q z w at x s u → Is (Gap true) q p s → SameEnd P (z ++ w) u → NodeReads P x
    node_reads {P = P} (laid_node {leading = q} {end = z} {trailing = w} {before = b} {after = a} {following = h} {before_children = bc} {before_terminator = bt} {at = at} {ty = ty} {name = name} {es = es} {k = k} y i e c) g m =
        let f = node_format q b a h bc bt z w in
        let head : Head = record { ty = ty; name = name; entries = es; format = Some f; span = at } in
        reads refl (head_reads head f g (free_type exact whole [] y) (free_identifier exact whole [] i) (entries_read e)) (children_read f c refl) (end_reads P k f c m)

    children_read : {k : Children} {b z s r : Text} (f : NodeFormat) → LaidChildren exact whole k b z s r → f.before_children ≡ b → ChildrenRead f k
    children_read f (laid_no_block c) h = no_block
    children_read f (laid_a_block c d l) h = a_block (λ t. subst (λ (x : Text). BeforeChildren (x ++ (123 ∷ t)) (123 ∷ t)) (sym h) (brace_place t c)) (block_reads d)

    nodes_read : (P : Rests) {trailing s t r : Text} {x : Node} {xs : Nodes} → LaidNodes exact whole (first x xs) s t → Is (Gap true) trailing t r → Like P r → NodesRead (last_rests trailing P) (first x xs)
    nodes_read P {trailing = trailing} (a_node {end = z} g n e sp no_laid) G h = last_node (node_reads n g (last_end P trailing z e G h))
    nodes_read P (a_node {end = z} g n e sp (a_node g' n' e' sp' ns)) G h =
        let c = node_front (node_of exact whole n') in
        let m = own_end z e (front_some g' c) (front_close g' c) in
        next_node (node_reads {P = Anything} n g (record { full = λ r p. m.full r; is = m.is })) (nodes_read P (a_node g' n' e' sp' ns) G h)

    block_reads : {d : Document} {s u : Text} → LaidContent exact whole d s (125 ∷ u) → BlockReads d
    block_reads (without_nodes {leading = q} g sp) = block (one_text (gap_before (BlockEnd (Some (record { leading = q; trailing = [] }))) g (λ u p. ap first_char p.1)))
    block_reads (laid_nodes {trailing = t} ns g sp) =
        let P = BlockEnd (Some (record { leading = []; trailing = t })) in
        block (with_nodes (λ r s xs z d. d) (nodes_read P ns g (λ u p. ap first_char p.1)) (gap_before P g (λ u p. ap first_char p.1)))

  -- a gap alone, and nodes before a gap, up to the end of the text
  gap_reads : {q s : Text} → Is (Gap true) q s [] → ContentReads TextEnd q [] none
  gap_reads g = one_text (gap_before TextEnd g (λ u p. ap first_char p))

  content_reads : {trailing s t : Text} {x : Node} {xs : Nodes} → LaidNodes exact whole (first x xs) s t → Is (Gap true) trailing t [] → ContentReads TextEnd [] trailing (first x xs)
  content_reads ns g = with_nodes (λ r s xs z d. d) (nodes_read TextEnd ns g (λ u p. ap first_char p)) (gap_before TextEnd g (λ u p. ap first_char p))

plain_document : {exact : Bool} {whole s : Text} {d : Document} → LaidContent exact whole d s [] → DocumentReads d
plain_document {exact = exact} {whole = whole} (without_nodes {leading = q} g sp) = DocumentReads.no_bom {o = Some (record { leading = q; trailing = [] })} (gap_reads exact whole g)
plain_document {exact = exact} {whole = whole} (laid_nodes {trailing = t} ns g sp) = DocumentReads.no_bom {o = Some (record { leading = []; trailing = t })} (content_reads exact whole ns g)

bom_document : {exact : Bool} {whole s : Text} {d : Document} → LaidContent exact whole d s [] → DocumentReads (with_bom d)
bom_document {exact = exact} {whole = whole} (without_nodes {leading = q} g sp) = DocumentReads.after_bom {o = Some (record { leading = 0xFEFF ∷ q; trailing = [] })} refl (gap_reads exact whole g)
bom_document {exact = exact} {whole = whole} (laid_nodes {trailing = t} ns g sp) = DocumentReads.after_bom {o = Some (record { leading = 0xFEFF ∷ []; trailing = t })} refl (content_reads exact whole ns g)

-- a document that is laid as a whole text
pub laid_reads : (exact : Bool) (t : Text) (d : Document) → LaidDocumentAs exact d t → DocumentReads d
laid_reads exact t d (LaidDocumentAs.no_bom c) = plain_document c
laid_reads exact t d (LaidDocumentAs.after_bom c) = bom_document c

text_parts : (z w r : Text) → z ++ (w ++ r) ≡ (z ++ w) ++ r
text_parts z w r = simp append_assoc

whole_end : (z w : Text) {u v : Text} → Is Terminator z u v → Is (Star LineSpace) w v [] → SameEnd TextEnd (z ++ w) u
whole_end z w {u = u} {v = v} e ls = record {
  full = λ r p. ap first_char (sym (same_text r p));
  is = λ r s xs p x d. (v, subst (λ (y : Text). Terminator y v) (same_text r p) e.is, gap_nodes (lines_gap ls.is) (subst (λ (y : Text). AreNodes true y s xs) p d));
}
  where
    same_text : (r : Text) → r ≡ [] → u ≡ (z ++ w) ++ r
    same_text r p = e.text ∙ ap (λ (y : Text). z ++ y) (ls.text ∙ ap (λ (y : Text). w ++ y) (sym p)) ∙ text_parts z w r

-- a node that is laid as a whole text
pub laid_node_reads : (exact : Bool) (t : Text) (n : Node) → LaidNodeTextAs exact t n → NodeReads TextEnd n
laid_node_reads exact t n (laid_node_text {end = z} {trailing = w} g x e ls sp) = node_reads exact t x g (whole_end z w e ls)
