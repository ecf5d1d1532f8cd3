-- Where one entry is exchanged, put in or taken out, at whatever depth of blocks, its piece of the printed text is, and no other character.
use Rattle.kdl.proofs.Common.{◌≡◌, ℕ, ◌+◌, List, [], ◌∷◌, ◌++◌, map, slice_get, Option, Some, None, IfSome, IsSome, Result, Ok, Err, IfOk, OnOk, is_ok, if◌then◌else◌, unwrap_or, Vec, Global, option_and_then, option_map, append_assoc, ap, refl, ◌∙◌, sym, subst, append-nil, map-append, none-some, with_item, Text, Entry, entry_tree, KdlEntry, after_brace, before_block, before_brace, end_text, format_of, print_document, print_head, print_node, print_piece, print_pieces, Document, DocumentFormat, Head, node, children, children_of, removed, replaced_place, under, IsInserted, place_of, removed_place, sought, there, document_format_tree, NodeKey, Key, Index, print_pieces-append, with_children, with_entries, with_node, is_node_named, node_named, node_place, nodes_of, with_node_named, with_node_there, document_before, document_after, head_of, tail_of, entries_of, found_entry, key_place, with_entry_there, with_found_entry, document_tree, node_tree, KdlNode, KdlDocument, out-KdlDocument, out-KdlNode, out-roll-KdlDocument}
use Rattle.kdl.specs.Bytes.{IsExchanged, IsExchangedInDocument, IsExchangedInNode, piece_of}
use Rattle.kdl.specs.EditLaw.{text_before, text_after}
use Rattle.kdl.specs.Fields.{document_format_of}
use Rattle.kdl.specs.Tree.{head_tree as head}
use Rattle.kdl.proofs.EditLaws.{entries_exchanged, entry_exchanged, node_exchanged}
use Rattle.kdl.proofs.Finding.DocumentLookups.{found_there}
use Rattle.kdl.proofs.Finding.ListLookups.{Splice, listed, splice_before, splice_for, splice_push, splice_without}
use Rattle.kdl.proofs.Trees.{document_tree_out, node_tree_out, node_tree_roll}

-- a piece of a piece
within : (p q old new : Text) (a z s t : Text) → IsExchanged p q old new → s ≡ a ++ old ++ z → t ≡ a ++ new ++ z → IsExchanged p q s t
within p q old new a z s t x h k = record {
  before = a ++ x.before;
  after = x.after ++ z;
  was = h ∙ ap (λ (u : Text). a ++ u ++ z) x.was ∙ seam p;
  is = k ∙ ap (λ (u : Text). a ++ u ++ z) x.is ∙ seam q;
}
  where
    seam : (u : Text) → a ++ (x.before ++ u ++ x.after) ++ z ≡ (a ++ x.before) ++ u ++ (x.after ++ z)
    seam u = simp append_assoc

-- an entry of a node with a format, exchanged for another
entry_piece : (n : KdlNode) (o : Option ℕ) (old new : KdlEntry) → IsSome (out-KdlNode n).format → Some old ≡ there o (entries_of n)
    → IsExchangedInNode (print_piece (entry_tree old)) (print_piece (entry_tree new)) n (with_entry_there o n new)
entry_piece n None old new f h = absurd (none-some _ (sym h))
entry_piece n (Some i) old new f h =
    let (was, is) = entry_exchanged n i old new f (sym h) in
    record { prints = λ depth. record { before = text_before (node_tree n) i depth; after = text_after (node_tree n) i depth; was = was depth; is = is depth } }

-- so through the loan of the entry that a key finds
pub loan_exchanges : {A : Type 0} (now : A → KdlEntry) (key : NodeKey) (n : KdlNode) (o : Option A) → option_map now o ≡ found_entry key n
    → IfSome o (λ e. (w : KdlEntry) → IsSome (out-KdlNode n).format → IsExchangedInNode (print_piece (entry_tree (now e))) (print_piece (entry_tree w)) n (with_found_entry key n w))
loan_exchanges now key n None h = tt
loan_exchanges now key n (Some e) h = λ w f. entry_piece n (key_place key n) (now e) w f h

-- entries of a node with a format, exchanged for others
abbrev pieces : List KdlEntry → Text
pieces es = print_pieces (map entry_tree es)

pieces_between : (a es z : List KdlEntry) → pieces (a ++ (es ++ z)) ≡ pieces a ++ (pieces es ++ pieces z)
pieces_between a es z =
    ap print_pieces (map-append entry_tree a (es ++ z))
    ∙ print_pieces-append (map entry_tree a) (map entry_tree (es ++ z))
    ∙ ap (λ t. pieces a ++ t) (ap print_pieces (map-append entry_tree es z) ∙ print_pieces-append (map entry_tree es) (map entry_tree z))

prints_entries : (n : KdlNode) (depth : ℕ) → print_node (node_tree n) depth ≡ head_of (node_tree n) depth ++ pieces (entries_of n) ++ tail_of (node_tree n) depth
prints_entries n depth =
    ap (λ t. print_node t depth) (node_tree_out n)
    ∙ ap (λ t. head_of t depth ++ pieces (entries_of n) ++ tail_of t depth) (sym (node_tree_out n))

moved : (h t : Text) (a l z : List KdlEntry) → h ++ pieces (a ++ (l ++ z)) ++ t ≡ (h ++ pieces a) ++ pieces l ++ (pieces z ++ t)
moved h t a l z = ap (λ u. h ++ u ++ t) (pieces_between a l z) ∙ seam h (pieces a) (pieces l) (pieces z) t
  where
    seam : (h b p c t : Text) → h ++ (b ++ (p ++ c)) ++ t ≡ (h ++ b) ++ p ++ (c ++ t)
    seam h b p c t = simp append_assoc

spliced : (n : KdlNode) (v : Vec KdlEntry Global) (es fs : List KdlEntry) → IsSome (out-KdlNode n).format → Splice es fs (entries_of n) v.items → IsExchangedInNode (pieces es) (pieces fs) n (with_entries n v)
spliced n v es fs f s = record { prints = λ depth. at depth }
  where
    at : (depth : ℕ) → IsExchanged (pieces es) (pieces fs) (print_node (node_tree n) depth) (print_node (node_tree (with_entries n v)) depth)
    at depth =
        let x = head_of (node_tree n) depth in
        let y = tail_of (node_tree n) depth in
        record {
          before = x ++ pieces s.before;
          after = pieces s.after ++ y;
          was = prints_entries n depth ∙ ap (λ (l : List KdlEntry). x ++ pieces l ++ y) s.was ∙ moved x y s.before es s.after;
          is = entries_exchanged n v f depth ∙ ap (λ (l : List KdlEntry). x ++ pieces l ++ y) s.is ∙ moved x y s.before fs s.after;
        }

-- at most one entry in place of at most one
piece_listed : (o : Option KdlEntry) → pieces (listed o) ≡ piece_of o
piece_listed None = refl
piece_listed (Some e) = append-nil (print_piece (entry_tree e))

exchanged_one : (n : KdlNode) (v : Vec KdlEntry Global) (o r : Option KdlEntry) → IsSome (out-KdlNode n).format → Splice (listed o) (listed r) (entries_of n) v.items → IsExchangedInNode (piece_of o) (piece_of r) n (with_entries n v)
exchanged_one n v o r f s =
    subst (λ (t : Text). IsExchangedInNode t (piece_of r) n (with_entries n v)) (piece_listed o)
    (subst (λ (t : Text). IsExchangedInNode (pieces (listed o)) t n (with_entries n v)) (piece_listed r) (spliced n v (listed o) (listed r) f s))

-- what `push`, `insert` and `remove` leave
pub push_exchanges : {T E : Type 0} (r : Result T E) (e : KdlEntry) (n : KdlNode) (v : Vec KdlEntry Global) → v.items ≡ (if is_ok r then entries_of n ++ (e ∷ []) else entries_of n)
    → OnOk r (IsSome (out-KdlNode n).format → IsExchangedInNode [] (print_piece (entry_tree e)) n (with_entries n v))
push_exchanges (Ok x) e n v h = λ f. exchanged_one n v None (Some e) f (splice_push (entries_of n) v.items e h)
push_exchanges (Err x) e n v h = tt

inserted_exchanges : (key : NodeKey) (e : KdlEntry) (n : KdlNode) (v : Vec KdlEntry Global) → IsInserted key e (entries_of n) v.items → IsSome (out-KdlNode n).format
    → IsExchangedInNode (piece_of (there (replaced_place key (entries_of n)) (entries_of n))) (print_piece (under (sought key) (entry_tree e))) n (with_entries n v)
inserted_exchanges (Key k) e n v d f =
    let old = there (place_of (Key k) (entries_of n)) (entries_of n) in
    subst (λ (t : Entry). IsExchangedInNode (piece_of old) (print_piece t) n (with_entries n v)) d.tree
    (exchanged_one n v old (Some d.entry) f (splice_for (entries_of n) v.items (place_of (Key k) (entries_of n)) d.entry d.items))
inserted_exchanges (Index i) e n v d f =
    subst (λ (t : Entry). IsExchangedInNode [] (print_piece t) n (with_entries n v)) d.tree
    (exchanged_one n v None (Some d.entry) f (splice_before (entries_of n) v.items (place_of (Index i) (entries_of n)) d.entry d.items))

pub insert_exchanges : {E : Type 0} (r : Result (Option KdlEntry) E) (key : NodeKey) (e : KdlEntry) (n : KdlNode) (v : Vec KdlEntry Global)
    → OnOk r (IsInserted key e (entries_of n) v.items) → IfOk r (λ o. o ≡ there (replaced_place key (entries_of n)) (entries_of n))
    → IfOk r (λ o. IsSome (out-KdlNode n).format → IsExchangedInNode (piece_of o) (print_piece (under (sought key) (entry_tree e))) n (with_entries n v))
insert_exchanges (Ok o) key e n v d h = λ f. subst (λ (x : Option KdlEntry). IsExchangedInNode (piece_of x) (print_piece (under (sought key) (entry_tree e))) n (with_entries n v)) (sym h) (inserted_exchanges key e n v d f)
insert_exchanges (Err x) key e n v d h = tt

pub remove_exchanges : (key : NodeKey) (n : KdlNode) (v : Vec KdlEntry Global) (o : Option KdlEntry) → v.items ≡ removed key (entries_of n) → o ≡ there (removed_place key (entries_of n)) (entries_of n)
    → IsSome (out-KdlNode n).format → IsExchangedInNode (piece_of o) [] n (with_entries n v)
remove_exchanges key n v o h k f = subst (λ (x : Option KdlEntry). IsExchangedInNode (piece_of x) [] n (with_entries n v)) (sym k)
    (exchanged_one n v (there (removed_place key (entries_of n)) (entries_of n)) None f (splice_without (entries_of n) v.items (removed_place key (entries_of n)) h))

-- a document of which one node is exchanged keeps the texts around its nodes
format_kept : (d : KdlDocument) (i : ℕ) (m : KdlNode) → document_format_of (with_node d i m) ≡ document_format_of d
format_kept d i m = ap (λ y. y.format) (out-roll-KdlDocument (record (out-KdlDocument d) { nodes = with_item (out-KdlDocument d).nodes i m }))

-- a node of a document, in which a piece is exchanged
node_prints : (p q : Text) (d : KdlDocument) (i : ℕ) (n m : KdlNode) → slice_get (nodes_of d) i ≡ Some n → IsExchangedInNode p q n m → (depth : ℕ)
    → IsExchanged p q (print_document (document_tree d) depth) (print_document (document_tree (with_node d i m)) depth)
node_prints p q d i n m h x depth =
    let (was, is) = node_exchanged d i n m depth h in
    within p q _ _ (document_before d i depth) (document_after d i depth) _ _ (x.prints depth) was is

node_piece : (p q : Text) (d : KdlDocument) (i : ℕ) (n m : KdlNode) → slice_get (nodes_of d) i ≡ Some n → IsExchangedInNode p q n m → IsExchangedInDocument p q d (with_node d i m)
node_piece p q d i n m h x = record { prints = node_prints p q d i n m h x; format = format_kept d i m }

pub named_exchanges : (s : List ℕ) (d : KdlDocument) (n : KdlNode) → Some n ≡ node_named s d → (m : KdlNode) (p q : Text) → IsExchangedInNode p q n m → IsExchangedInDocument p q d (with_node_named s d m)
named_exchanges s d n h m p q x = go (node_place s d) (h ∙ found_there (is_node_named s) (nodes_of d))
  where
    go : (o : Option ℕ) → Some n ≡ option_and_then (λ i. slice_get (nodes_of d) i) o → IsExchangedInDocument p q d (with_node_there o d m)
    go None e = absurd (none-some _ (sym e))
    go (Some i) e = node_piece p q d i n m (sym e) x

-- the block of a node, of which the texts around the nodes stay
block_text : (h : Head) (d : Document) (depth : ℕ) (f : Option DocumentFormat) → format_of d ≡ f → print_node (node h (children d)) depth
    ≡ (print_head h depth ++ print_pieces h.entries ++ (before_block h.format h.entries ++ (123 ∷ after_brace f))) ++ print_document d (depth + 1) ++ (before_brace f depth ++ (125 ∷ end_text h.format))
block_text h d depth f e =
    ap (λ g. print_head h depth ++ print_pieces h.entries ++ (before_block h.format h.entries ++ (123 ∷ after_brace g) ++ print_document d (depth + 1) ++ before_brace g depth ++ (125 ∷ end_text h.format))) e
    ∙ seam (print_head h depth) (print_pieces h.entries) (before_block h.format h.entries) (123 ∷ after_brace f) (print_document d (depth + 1)) (before_brace f depth) (125 ∷ end_text h.format)
  where
    seam : (a b c o t k z : Text) → a ++ b ++ (c ++ o ++ t ++ k ++ z) ≡ (a ++ b ++ (c ++ o)) ++ t ++ (k ++ z)
    seam a b c o t k z = simp append_assoc

format_out : (d : KdlDocument) → format_of (document_tree d) ≡ option_map document_format_tree (document_format_of d)
format_out d = ap format_of (document_tree_out d)

-- the block of a node, in which a piece is exchanged
pub block_exchanges : (n : KdlNode) (d e : KdlDocument) (p q : Text) → (out-KdlNode n).children ≡ Some d → IsExchangedInDocument p q d e → IsExchangedInNode p q n (with_children n (Some e))
block_exchanges n d e p q h x =
    let y = out-KdlNode n in
    let old : node_tree n ≡ node (head y) (children (document_tree d)) = node_tree_out n ∙ ap (λ o. node (head y) (children_of (option_map document_tree o))) h in
    let new : node_tree (with_children n (Some e)) ≡ node (head y) (children (document_tree e)) = node_tree_roll (record y { children = Some e }) in
    let same : format_of (document_tree e) ≡ format_of (document_tree d) = format_out e ∙ ap (option_map document_format_tree) x.format ∙ sym (format_out d) in
    let at : (depth : ℕ) → IsExchanged p q (print_node (node_tree n) depth) (print_node (node_tree (with_children n (Some e))) depth) =
    λ depth. within p q _ _ _ _ _ _ (x.prints (depth + 1))
    (ap (λ t. print_node t depth) old ∙ block_text (head y) (document_tree d) depth (format_of (document_tree d)) refl)
    (ap (λ t. print_node t depth) new ∙ block_text (head y) (document_tree e) depth (format_of (document_tree d)) same) in
    record { prints = at }

-- so of a block that is made where there is none
pub ensured_exchanges : (n : KdlNode) (o : Option KdlDocument) (r d : KdlDocument) → o ≡ (out-KdlNode n).children → r ≡ unwrap_or o d → IsSome o
    → (e : KdlDocument) (p q : Text) → IsExchangedInDocument p q r e → IsExchangedInNode p q n (with_children n (Some e))
ensured_exchanges n None r d h k s = absurd (cc)
ensured_exchanges n (Some b) r d h k s = λ e p q x. block_exchanges n b e p q (sym h) (subst (λ (y : KdlDocument). IsExchangedInDocument p q y e) k x)

-- so of the block that is there
pub some_exchanges : (n : KdlNode) (o : Option KdlDocument) → o ≡ (out-KdlNode n).children → (e : KdlDocument) (p q : Text) → IsSome o → IfSome o (λ d. IsExchangedInDocument p q d e) → IsExchangedInNode p q n (with_children n (Some e))
some_exchanges n None h e p q s x = absurd (cc)
some_exchanges n (Some d) h e p q s x = block_exchanges n d e p q (sym h) x
