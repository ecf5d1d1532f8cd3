-- Nodes pushed to the list of a document, where what is before them ends by itself.
use Rattle.kdl_laws.proofs.Common.{◌≡◌, ℕ, suc, true, List, [], ◌∷◌, ◌++◌, length, map, Option, Some, None, slice_get, Global, refl, ap, ◌∙◌, sym, subst, arith, append-nil, get_or_from_slice_get, slice_get_within, Text, SourceSpan, no_gap, Rests, Anything, TextEnd, NodeReads, Node, document, document_data, node_data, nodes_data, without_bom, nodes_of, DocumentReadsBack, NodeEnds, NodeReadsBack, document_says, document_tree, node_says, node_tree, nodes_tree, KdlNode, KdlDocument, out-KdlDocument, nodes_read_back, document_tree_out, document_tree_roll}
use Rattle.std.proofs.Common.{◌-◌, Vec}
use Rattle.std.proofs.lemmas.List.{length-map, map-append}
use Rattle.kdl_grammar.specs.Data as data'
use Rattle.kdl_grammar.specs.Grammar.{Gap}
use Rattle.kdl_grammar.specs.Print.{leading_text, trailing_text}
use Rattle.kdl_grammar.specs.ReadsBack.{AddsNothing, NodesRead, last_node, next_node, ContentReads, one_text, two_texts, with_nodes, last_rests, DocumentReads}
use Rattle.kdl_grammar.specs.Tree.{DocumentFormat, listed_nodes}
use Rattle.kdl_grammar.proofs.ReadingBack.Composing.{ends_before}
use Rattle.kdl.proofs.Putting.DocumentReads.{gap_alone}
use Rattle.kdl.specs.Change as change
use Rattle.kdl.specs.Nodes.{said_with, texts_around, trees}
use Rattle.kdl.specs.Said.{said_nodes}
use Rattle.kdl_laws.specs.Pushed.{EndsBefore, LastEnds}

-- a node after the last one, which ends by itself
nodes_pushed : {P : Rests} (n : KdlNode) (ns : List KdlNode) (put : Node) → ((x : KdlNode) → slice_get (n ∷ ns) (length ns) ≡ Some x → NodeEnds x) → NodeReads P put → NodesRead P (nodes_tree (n ∷ ns))
    → NodesRead P (listed_nodes (map node_tree (n ∷ ns) ++ (put ∷ [])))
nodes_pushed n [] put e p (last_node x) = next_node (e n refl) (last_node p)
nodes_pushed n (m ∷ ns) put e p (next_node x xs) = next_node x (nodes_pushed m ns put e p xs)

last_ends : (o : Option DocumentFormat) (r : Option KdlNode) (x : KdlNode) → r ≡ Some x → EndsBefore o r → NodeEnds x
last_ends o None x h e = absurd (cc)
last_ends o (Some n) x h e = let same : n ≡ x = cc in subst NodeEnds same e

content_pushed : (o : Option DocumentFormat) (l t : Text) (ns : List KdlNode) (put : Node) → (Gap true l [] → without_bom (leading_text o) ≡ l) → EndsBefore o (slice_get ns (length ns - 1)) → NodeReads Anything put
    → ContentReads TextEnd l t (nodes_tree ns) → ContentReads TextEnd l t (listed_nodes (map node_tree ns ++ (put ∷ [])))
content_pushed o l t [] put s e p (one_text g) =
    let gap : Gap true l [] = subst (λ (u : Text). Gap true u []) (append-nil l) (g [] refl) in
    with_nodes (subst AddsNothing (s gap) e) (last_node (ends_before TextEnd p)) (λ r q. no_gap)
content_pushed o l t [] put s e p (two_texts a g) = with_nodes a (last_node (ends_before (last_rests t TextEnd) p)) g
content_pushed o l t (n ∷ ns) put s e p (with_nodes a x g) =
    let at : suc (length ns) - 1 ≡ length ns = omega arith in
    let here : EndsBefore o (slice_get (n ∷ ns) (length ns)) = subst (λ (k : ℕ). EndsBefore o (slice_get (n ∷ ns) k)) at e in
    with_nodes a (nodes_pushed n ns put (λ y h. last_ends o (slice_get (n ∷ ns) (length ns)) y h here) (ends_before (last_rests t TextEnd) p) x) g

-- U+FEFF begins no gap, and is not of the text after it
following : (o : Option DocumentFormat) (l : Text) → leading_text o ≡ 0xFEFF ∷ l → without_bom (leading_text o) ≡ l
following o l h = ap without_bom h

whole_pushed : (o : Option DocumentFormat) (at : SourceSpan) (ns : List KdlNode) (put : Node) → EndsBefore o (slice_get ns (length ns - 1)) → NodeReads Anything put
    → DocumentReads (document o at (nodes_tree ns)) → DocumentReads (document o at (listed_nodes (map node_tree ns ++ (put ∷ []))))
whole_pushed o at ns put e p (DocumentReads.no_bom c) = DocumentReads.no_bom (content_pushed o (leading_text o) (trailing_text o) ns put (λ g. gap_alone (leading_text o) g) e p c)
whole_pushed o at ns put e p (DocumentReads.after_bom {leading = l} h c) = DocumentReads.after_bom h (content_pushed o l (trailing_text o) ns put (λ g. following o l h) e p c)

-- the document with the list
tree_pushed : (d : KdlDocument) (n : KdlNode) (v : Vec KdlNode Global) → v.items ≡ nodes_of d ++ (n ∷ [])
    → document_tree (change.with_nodes d v) ≡ document (texts_around d) (out-KdlDocument d).span (listed_nodes (trees d ++ (node_tree n ∷ [])))
tree_pushed d n v h =
    document_tree_roll (record (out-KdlDocument d) { nodes = v })
    ∙ ap (λ (l : List Node). document (texts_around d) (out-KdlDocument d).span (listed_nodes l)) (ap (map node_tree) h ∙ map-append node_tree (nodes_of d) (n ∷ []))

pub pushed_reads : (d : KdlDocument) (n : KdlNode) → DocumentReadsBack d → LastEnds d → NodeEnds n → (v : Vec KdlNode Global) → v.items ≡ nodes_of d ++ (n ∷ []) → DocumentReadsBack (change.with_nodes d v)
pushed_reads d n x e p v h =
    subst DocumentReads (sym (tree_pushed d n v h)) (whole_pushed (texts_around d) (out-KdlDocument d).span (nodes_of d) (node_tree n) e p (subst DocumentReads (document_tree_out d) x))

-- what it says
said_last : (ns : List Node) (x : Node) → nodes_data (listed_nodes (ns ++ (x ∷ []))) ≡ said_with (length ns) (node_data x) (nodes_data (listed_nodes ns))
said_last [] x = refl
said_last (n ∷ ns) x = ap (data'.first (node_data n)) (said_last ns x)

pub pushed_says : (d : KdlDocument) (n : KdlNode) (v : Vec KdlNode Global) → v.items ≡ nodes_of d ++ (n ∷ []) → document_says (change.with_nodes d v) ≡ said_with (length (nodes_of d)) (node_says n) (document_says d)
pushed_says d n v h =
    ap document_data (tree_pushed d n v h) ∙ said_last (trees d) (node_tree n)
    ∙ ap (λ (k : ℕ). said_with k (node_says n) (nodes_data (listed_nodes (trees d)))) (length-map (nodes_of d) node_tree)
    ∙ ap (λ (z : data'.Nodes). said_with (length (nodes_of d)) (node_says n) z) (sym (ap document_data (document_tree_out d)))

-- the last node of a list is that of the document
pub last_is_end : (d : KdlDocument) (ns : List KdlNode) (n : KdlNode) → ns ≡ nodes_of d → Some n ≡ slice_get ns (length ns - 1) → (NodeReadsBack n → NodeEnds n) → DocumentReadsBack d → LastEnds d
last_is_end d ns n h s f x =
    let i = length (nodes_of d) - 1 in
    let own : slice_get (nodes_of d) i ≡ Some n = subst (λ (l : List KdlNode). slice_get l (length l - 1) ≡ Some n) h (sym s) in
    let here : NodeReadsBack n = subst NodeReadsBack (get_or_from_slice_get (nodes_of d) i n n own) (nodes_read_back d x i n (slice_get_within (nodes_of d) i n own)) in
    subst (EndsBefore (texts_around d)) (sym own) (f here)

-- as a list, what a document says
abbrev lasts : List KdlNode → data'.Node → List data'.Node
lasts ns x = said_nodes (said_with (length ns) x (nodes_data (nodes_tree ns)))

said_after : (ns : List KdlNode) (x : data'.Node) → lasts ns x ≡ said_nodes (nodes_data (nodes_tree ns)) ++ (x ∷ [])
said_after [] x = refl
said_after (n ∷ ns) x = ap (λ (l : List data'.Node). node_says n ∷ l) (said_after ns x)

pub put_last : (d e : KdlDocument) (x : data'.Node) → document_says e ≡ said_with (length (nodes_of d)) x (document_says d) → said_nodes (document_says e) ≡ said_nodes (document_says d) ++ (x ∷ [])
put_last d e x h =
    let own : document_says d ≡ nodes_data (nodes_tree (nodes_of d)) = ap document_data (document_tree_out d) in
    ap said_nodes (h ∙ ap (said_with (length (nodes_of d)) x) own) ∙ said_after (nodes_of d) x ∙ ap (λ (z : data'.Nodes). said_nodes z ++ (x ∷ [])) (sym own)
