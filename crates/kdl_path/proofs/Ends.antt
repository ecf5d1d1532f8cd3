-- A node after spaces, and with an end.
use Rattle.std.proofs.Common.{◌≡◌, inl, inr, String, Global, ℕ, zero, suc, Bool, true, false, ◌&&◌, slice_get, string_bytes, [], ◌∷◌, ◌++◌, Option, Some, option_map, refl, ap, ◌∙◌, sym, subst, append_assoc}
use Rattle.std.proofs.lemmas.Bool.{and_parts}
use Rattle.std.proofs.lemmas.List.Folds.{list_all-append}
use Rattle.std.specs.List.{list_all}
use Rattle.std.specs.Str.{chars}
use Rattle.kdl_text.specs.Chars.{Newline, Space, Star, Text, is_newline_char, is_space}
use Rattle.kdl_text.specs.Trivia.{Break, LineSpace, NodeSpace, Ws}
use Rattle.kdl_layout.proofs.Texts.{ascii_text, newline_text, space_text}
use Rattle.kdl_grammar.specs.Data as nodes'
use Rattle.kdl_grammar.specs.Grammar.{AreNodes, Gap, Terminator, last_gap, line_space, node_then}
use Rattle.kdl_grammar.specs.Places.{BeforeChildren, after, before}
use Rattle.kdl_grammar.specs.ReadsBack.{Anything, BeforeTerminator, BlockReads, ChildrenRead, EndReads, HeadReads, NodeReads, Rests, TextEnd, a_block, name_text, no_block, reads}
use Rattle.kdl_grammar.specs.Tree.{Children, Head, Node, NodeFormat, children, children_of, document_data, no_children, node, node_data}
use Rattle.kdl_entry.specs.Tree.{Identifier}
use Rattle.kdl_parts.specs.Formats.{empty_node_format, ended_format, node_format_tree}
use Rattle.kdl_parts.specs.declared.format.KdlNodeFormat.{KdlNodeFormat}
use Rattle.kdl.specs.Change.{with_children, with_format, with_node, with_nodes}
use Rattle.kdl.specs.Cleared.{new_node}
use Rattle.kdl.specs.DocumentLookups.{nodes_of}
use Rattle.kdl.specs.Fields.{block_of, held_nodes, node_format_of}
use Rattle.kdl.specs.ReadsBack.{NodeEnds, NodeReadsBack}
use Rattle.kdl.specs.Tree.{document_says, document_tree, head_tree, node_says, node_tree}
use Rattle.kdl.specs.declared.document.KdlDocument.{KdlDocument}
use Rattle.kdl.specs.declared.document.KdlDocument.TheViews.{out-KdlDocument, out-KdlNode}
use Rattle.kdl.specs.declared.node.KdlNode.{KdlNode}
use Rattle.kdl.proofs.Putting.NodeEnds.{empty_string}
use Rattle.kdl.proofs.ReadingBack.{block_exchanged, node_set_reads}
use Rattle.kdl.proofs.Trees.{document_tree_out, document_tree_roll, node_tree_out, node_tree_roll}
use Rattle.kdl_value.specs.Tree.{text_of}
use Rattle.kdl_path.specs.Edits.{with_block, with_nth}
use Rattle.kdl_path.specs.Internal.Laid.{EndsLine, IsBlockLaid, IsEnd, IsIndented, IsLaid, IsSpaces}
use Rattle.kdl_path.specs.declared.laid.Ends.{Ends}
use Rattle.kdl_path.proofs.Trees.{block_set_says, node_set_says}

-- spaces
spaces_gap : (u r : Text) {t : Text} → IsSpaces u → Gap true r t → Gap true (u ++ r) t
spaces_gap [] r h g = g
spaces_gap (c ∷ u) r h g = let (a, b) = and_parts (is_space c) (list_all is_space u) h in line_space (LineSpace.space (NodeSpace.ws (Ws.space (Space.space a)))) (spaces_gap u r b g)

spaces_nodes : (u : Text) {r s : Text} {xs : nodes'.Nodes} → IsSpaces u → AreNodes true r s xs → AreNodes true (u ++ r) s xs
spaces_nodes u h (last_gap g) = last_gap (spaces_gap u _ h g)
spaces_nodes u h (node_then g n t x) = node_then (spaces_gap u _ h g) n t x

spaces_star : (u r : Text) → IsSpaces u → Star NodeSpace (u ++ r) r
spaces_star [] r h = Star.none
spaces_star (c ∷ u) r h = let (a, b) = and_parts (is_space c) (list_all is_space u) h in Star.more (NodeSpace.ws (Ws.space (Space.space a))) (spaces_star u r b)

before_end : (k : Children) (u r : Text) → IsSpaces u → BeforeTerminator k (u ++ r) r
before_end no_children u r h = before Star.none (after Star.none (spaces_star u r h))
before_end (children d) u r h = after Star.none (spaces_star u r h)

-- the block of a node with other texts around it
kids_same : {f g : NodeFormat} (k : Children) → f.before_children ≡ g.before_children → ChildrenRead f k → ChildrenRead g k
kids_same no_children e no_block = no_block
kids_same (children d) e (a_block c b) = a_block (λ t. subst (λ (s : Text). BeforeChildren (s ++ (123 ∷ t)) (123 ∷ t)) e (c t)) b

-- a node with other spaces before its terminator
spaced_reads : {P : Rests} {h : Head} {f : NodeFormat} (k : Children) (u : Text) → IsSpaces u → h.format ≡ Some f → NodeReads P (node h k) → NodeReads P (node (record h { format = Some (record f { before_terminator = u }) }) k)
spaced_reads {P = P} {h = h} {f = f} k u s a (reads {f = g} e head kids end) =
    let both : Some g ≡ Some f = sym e ∙ a in
    let same : g ≡ f = cc in
    let head' : HeadReads h f = subst (HeadReads h) same head in
    let kids' : ChildrenRead f k = subst (λ (x : NodeFormat). ChildrenRead x k) same kids in
    let end' : EndReads P k f = subst (EndReads P k) same end in
    reads refl (record { leading = head'.leading; name = λ v d. head'.name v d; entries = head'.entries }) (kids_same k refl kids') (record { place = λ r p t. before_end k u _ s; terminator = end'.terminator })

-- spaces, or a newline, before a node
led_reads : {P : Rests} {h : Head} {f : NodeFormat} (k : Children) (u : Text) → ((r t : Text) → Gap true r t → Gap true (u ++ r) t) → h.format ≡ Some f → NodeReads P (node h k)
    → NodeReads P (node (record h { format = Some (record f { leading = u ++ f.leading }) }) k)
led_reads {P = P} {h = h} {f = f} k u s a (reads {f = g} e head kids end) =
    let both : Some g ≡ Some f = sym e ∙ a in
    let same : g ≡ f = cc in
    let head' : HeadReads h f = subst (HeadReads h) same head in
    let kids' : ChildrenRead f k = subst (λ (x : NodeFormat). ChildrenRead x k) same kids in
    let end' : EndReads P k f = subst (EndReads P k) same end in
    reads refl
    (record { leading = λ r. subst (λ (x : Text). Gap true x (name_text h f ++ r)) (sym (append_assoc u f.leading (name_text h f ++ r))) (s (f.leading ++ (name_text h f ++ r)) _ (head'.leading r)); name = λ v d. head'.name v d; entries = head'.entries })
    (kids_same k refl kids')
    (record { place = λ r p t. end'.place r p t; terminator = end'.terminator })

-- a node that ends with one character, and spaces around it
ended_reads : (c : ℕ) → ((r : Text) → Terminator (c ∷ r) r) → {P Q : Rests} {h : Head} {f : NodeFormat} (k : Children) (b u : Text) → IsSpaces b → IsSpaces u → h.format ≡ Some f → NodeReads P (node h k)
    → NodeReads Q (node (record h { format = Some (record f { before_terminator = b; terminator = c ∷ []; trailing = u }) }) k)
ended_reads c t {P = P} {Q = Q} {h = h} {f = f} k b u s w a (reads {f = g} e head kids end) =
    let both : Some g ≡ Some f = sym e ∙ a in
    let same : g ≡ f = cc in
    let head' : HeadReads h f = subst (HeadReads h) same head in
    let kids' : ChildrenRead f k = subst (λ (x : NodeFormat). ChildrenRead x k) same kids in
    reads refl (record { leading = head'.leading; name = λ v d. head'.name v d; entries = head'.entries }) (kids_same k refl kids')
    (record { place = λ r p x. before_end k b _ s; terminator = λ r s xs p z d. (u ++ r, t (u ++ r), spaces_nodes u w d) })

a_newline : (r : Text) → Terminator (10 ∷ r) r
unfolding is_newline_char
a_newline r = Terminator.newline (Newline.one refl refl)

-- the same of a node in memory whose format is exchanged
pub formatted_says : (n : KdlNode) (g : Option KdlNodeFormat) → node_says (with_format n g) ≡ node_says n
formatted_says n g = ap node_data (node_tree_roll (record (out-KdlNode n) { format = g })) ∙ sym (ap node_data (node_tree_out n))

formatted : (P Q : Rests) (n : KdlNode) (f F : KdlNodeFormat) (g : NodeFormat) → node_format_of n ≡ Some f → node_format_tree F ≡ g
    → ((h : Head) (k : Children) → children_of (option_map document_tree (block_of n)) ≡ k → h.format ≡ Some (node_format_tree f) → NodeReads P (node h k) → NodeReads Q (node (record h { format = Some g }) k))
    → NodeReads P (node_tree n) → NodeReads Q (node_tree (with_format n (Some F)))
formatted P Q n f F g own is step x =
    let X = out-KdlNode n in
    let k = children_of (option_map document_tree X.children) in
    let old : NodeReads P (node (head_tree X) k) = subst (λ (y : Node). NodeReads P y) (node_tree_out n) x in
    let new : NodeReads Q (node (record (head_tree X) { format = Some g }) k) = step (head_tree X) k refl (ap (option_map node_format_tree) own) old in
    subst (λ (y : Node). NodeReads Q y) (sym (node_tree_roll (record X { format = Some F }) ∙ ap (λ (y : NodeFormat). node (record (head_tree X) { format = Some y }) k) is)) new

-- the node is unchanged, or is changed twice
pub unchanged : (n : KdlNode) → IsLaid n n
unchanged n = record { says = refl; reads = λ P x. x }

pub twice : (n k m : KdlNode) → IsLaid n k → IsLaid k m → IsLaid n m
twice n k m x y = record { says = y.says ∙ x.says; reads = λ P r. y.reads P (x.reads P r) }

-- the same texts, and the same block
pub format_kept : (n : KdlNode) (f : KdlNodeFormat) → node_format_of n ≡ Some f → IsLaid n (with_format n (Some f))
format_kept n f own =
    let same : node_tree (with_format n (Some f)) ≡ node_tree n = ap (λ (o : Option KdlNodeFormat). node_tree (with_format n o)) (sym own) ∙ node_tree_roll (out-KdlNode n) ∙ sym (node_tree_out n) in
    record { says = ap node_data same; reads = λ P x. subst (λ (t : Node). NodeReads P t) (sym same) x }

pub block_kept : (n : KdlNode) (o : Option KdlDocument) → block_of n ≡ o → IsLaid n (with_children n o)
block_kept n o own =
    let same : node_tree (with_children n o) ≡ node_tree n = ap (λ (o : Option KdlDocument). node_tree (with_children n o)) (sym own) ∙ node_tree_roll (out-KdlNode n) ∙ sym (node_tree_out n) in
    record { says = ap node_data same; reads = λ P x. subst (λ (t : Node). NodeReads P t) (sym same) x }

pub nodes_kept : (d : KdlDocument) → IsBlockLaid d (with_nodes d (held_nodes d))
nodes_kept d =
    let same : document_tree (with_nodes d (held_nodes d)) ≡ document_tree d = document_tree_roll (out-KdlDocument d) ∙ sym (document_tree_out d) in
    record { says = ap document_data same; reads = λ x. subst BlockReads (sym same) x }

pub block_unchanged : (d : KdlDocument) → IsBlockLaid d d
block_unchanged d = record { says = refl; reads = λ x. x }

led : (n : KdlNode) (f : KdlNodeFormat) (s : String Global) (u : Text) → node_format_of n ≡ Some f → text_of s ≡ u ++ text_of f.leading → ((r t : Text) → Gap true r t → Gap true (u ++ r) t) → IsLaid n (with_format n (Some (record f { leading = s })))
led n f s u own is gap = record {
  says = formatted_says n (Some (record f { leading = s }));
  reads = λ P x. formatted P P n f (record f { leading = s }) (record (node_format_tree f) { leading = u ++ text_of f.leading }) own (ap (λ (t : Text). record (node_format_tree f) { leading = t }) is) (λ d k e a y. led_reads k u gap a y) x;
}

pub indent_laid : (n : KdlNode) (f : KdlNodeFormat) (s : String Global) → node_format_of n ≡ Some f → IsIndented (text_of f.leading) (text_of s) → IsLaid n (with_format n (Some (record f { leading = s })))
indent_laid n f s own h = led n f s h.spaces own h.is (λ r t g. spaces_gap h.spaces r h.are g)

newline_gap : (r : Text) {t : Text} → Gap true r t → Gap true (10 ∷ r) t
unfolding is_newline_char
newline_gap r g = line_space (LineSpace.«break» (Break.newline (Newline.one refl refl))) g

pub line_laid : (n : KdlNode) (f : KdlNodeFormat) (s : String Global) → node_format_of n ≡ Some f → text_of s ≡ chars (10 ∷ []) ++ text_of f.leading → IsLaid n (with_format n (Some (record f { leading = s })))
line_laid n f s own is = led n f s (10 ∷ []) own (is ∙ ap (λ (t : Text). t ++ text_of f.leading) newline_text) (λ r t g. newline_gap r g)

pub space_laid : (n : KdlNode) (f : KdlNodeFormat) (s : String Global) → node_format_of n ≡ Some f → IsSpaces (text_of s) → IsLaid n (with_format n (Some (record f { before_terminator = s })))
space_laid n f s own h = record {
  says = formatted_says n (Some (record f { before_terminator = s }));
  reads = λ P x. formatted P P n f (record f { before_terminator = s }) (record (node_format_tree f) { before_terminator = text_of s }) own refl (λ d k e a y. spaced_reads k (text_of s) h a y) x;
}

pub end_laid : (n : KdlNode) (f : KdlNodeFormat) (e : Ends) → node_format_of n ≡ Some f → IsEnd e → IsLaid n (with_format n (Some (record f { before_terminator = e.before; terminator = e.terminator; trailing = e.after })))
end_laid n f e own h = record { says = formatted_says n (Some F); reads = λ P x. go P h.terminator x }
  where
    F : KdlNodeFormat
    F = record f { before_terminator = e.before; terminator = e.terminator; trailing = e.after }

    with_end : ℕ → NodeFormat
    with_end c = record (node_format_tree f) { before_terminator = text_of e.before; terminator = c ∷ []; trailing = text_of e.after }

    go : (P : Rests) → EndsLine (text_of e.terminator) → NodeReads P (node_tree n) → NodeReads P (node_tree (with_format n (Some F)))
    go P (inl i) x =
        formatted P P n f F (with_end 59) own (ap (λ (t : Text). record (node_format_tree f) { before_terminator = text_of e.before; terminator = t; trailing = text_of e.after }) i)
        (λ d k c a y. ended_reads 59 (λ r. Terminator.semicolon) k (text_of e.before) (text_of e.after) h.before h.after a y) x
    go P (inr i) x =
        formatted P P n f F (with_end 10) own (ap (λ (t : Text). record (node_format_tree f) { before_terminator = text_of e.before; terminator = t; trailing = text_of e.after }) i)
        (λ d k c a y. ended_reads 10 a_newline k (text_of e.before) (text_of e.after) h.before h.after a y) x

-- a new node with empty texts around its parts
abbrev with_no_texts : Node → Node
with_no_texts (node h k) = node (record h { format = Some empty_node_format }) k

bare_reads : (i : Identifier) → NodeReads Anything (new_node i) → NodeReads TextEnd (with_no_texts (new_node i))
bare_reads i (reads {f = g} e head kids end) =
    let same : g ≡ ended_format = cc in
    let head' = subst (HeadReads _) same head in
    reads refl (record { leading = head'.leading; name = λ v d. head'.name v d; entries = head'.entries }) no_block
    (record { place = λ r p t. before_end no_children [] r refl; terminator = λ r s xs p z d. (r, subst (λ (t : Text). Terminator t t) (sym p) Terminator.at_end, d) })

pub bare_node : (n : KdlNode) (i : Identifier) (F : KdlNodeFormat) → node_tree n ≡ new_node i → node_format_tree F ≡ empty_node_format → NodeEnds n → NodeReadsBack (with_format n (Some F))
bare_node n i F own is x =
    let X = out-KdlNode n in
    let k = children_of (option_map document_tree X.children) in
    let same : node_tree (with_format n (Some F)) ≡ with_no_texts (new_node i) =
    node_tree_roll (record X { format = Some F }) ∙ ap (λ (y : NodeFormat). node (record (head_tree X) { format = Some y }) k) is ∙ sym (ap with_no_texts (node_tree_out n)) ∙ ap with_no_texts own in
    subst (λ (y : Node). NodeReads TextEnd y) (sym same) (bare_reads i (subst (λ (y : Node). NodeReads Anything y) own x))

-- the texts that end a node
pub newline_ends : EndsLine (chars (10 ∷ []))
newline_ends = inr newline_text

pub semicolon_ends : EndsLine (chars (59 ∷ []))
semicolon_ends = inl (ascii_text (59 ∷ []) refl)

pub a_space : IsSpaces (chars (32 ∷ []))
unfolding is_space
a_space = ap (list_all is_space) space_text

pub a_tab : IsSpaces (chars (9 ∷ []))
unfolding is_space
a_tab = ap (list_all is_space) (ascii_text (9 ∷ []) refl)

pub no_spaces : (s : String Global) → string_bytes s ≡ [] → IsSpaces (text_of s)
no_spaces s h = ap (list_all is_space) (empty_string s h)

pub more_spaces : (now was more : Text) → now ≡ was ++ more → IsSpaces more → IsSpaces was → IsSpaces now
more_spaces now was more e h k = ap (list_all is_space) e ∙ list_all-append is_space was more ∙ both (list_all is_space was) (list_all is_space more) k h
  where
    both : (a b : Bool) → a ≡ true → b ≡ true → (a && b) ≡ true
    both true true h k = refl
    both true false h k = cc
    both false b h k = cc

-- the block of a node
pub block_laid : (n : KdlNode) (d e : KdlDocument) → block_of n ≡ Some d → IsBlockLaid d e → IsLaid n (with_children n (Some e))
block_laid n d e h l = record {
  says = block_set_says n d e (λ x. x) h l.says ∙ same_block (node_says n);
  reads = block_exchanged n d e h l.reads;
}
  where
    same_block : (x : nodes'.Node) → with_block (λ y. y) x ≡ x
    same_block (nodes'.node ty name es nodes'.no_children) = refl
    same_block (nodes'.node ty name es (nodes'.children y)) = refl

pub node_laid : (d : KdlDocument) (i : ℕ) (n m : KdlNode) → slice_get (nodes_of d) i ≡ Some n → IsLaid n m → IsBlockLaid d (with_node d i m)
node_laid d i n m h l = record {
  says = node_set_says d i n m (λ x. x) h l.says ∙ same_nodes i (document_says d);
  reads = (node_set_reads d i n m h l.reads).1;
}
  where
    same_nodes : (i : ℕ) (x : nodes'.Nodes) → with_nth i (λ y. y) x ≡ x
    same_nodes i nodes'.none = refl
    same_nodes zero (nodes'.first n x) = refl
    same_nodes (suc i) (nodes'.first n x) = ap (nodes'.first n) (same_nodes i x)
