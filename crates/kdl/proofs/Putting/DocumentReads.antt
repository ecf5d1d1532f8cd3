-- Documents and blocks that read back, with a node added.
use Rattle.kdl.proofs.Common.{◌≡◌, ℕ, suc, ◌<◌, Bool, true, false, List, [], ◌∷◌, ◌++◌, length, map, set, ap, ◌∙◌, sym, subst, arith, Option, Some, None, option_map, add-one, length-map, map-set, slice_get-map, insert, Text, SourceSpan, without_bom, Gap, leading_text, trailing_text, Rests, Anything, TextEnd, BlockEnd, MayFollow, AddsNothing, last_rests, NodeReads, NodesRead, last_node, next_node, ContentReads, one_text, two_texts, BlockReads, block, DocumentReads, DocumentFormat, Node, Nodes, document, listed_nodes, KdlNodeFormat, nodes_of, EndsAs, GapSays, IsRestAt, LeadsExactly, PutAfter, PutFirst, ReadsIn, end_with, led_with, newlines, texts_around, trees, NodeReadsBack, document_tree, node_tree, KdlDocument, out-KdlDocument, Rest, KdlNode}
use Rattle.kdl_layout.proofs.Keeping.GapFronts.{gap_without_bom}
use Rattle.kdl_layout.proofs.Listing.PlaceTexts.{gap_items}
use Rattle.kdl_grammar.specs.ReadsBack.{no_node, with_nodes}
use Rattle.kdl_grammar.proofs.ReadingBack.Composing.{ends_before, weaker}
use Rattle.kdl.specs.Internal.Ends.{rests_after}
use Rattle.kdl.proofs.Putting.PutReads.{content_put, content_put_first}
use Rattle.kdl.proofs.Putting.Puts.{insert_trees, leads_printed, leads_trailing, texts_kept}
use Rattle.kdl.proofs.ReadingBack.{whole_as}
use Rattle.kdl.proofs.Trees.{document_tree_out}

nodes_weaker : (P Q : Rests) {ns : Nodes} → ((r : Text) → MayFollow Q r → MayFollow P r) → NodesRead P ns → NodesRead Q ns
nodes_weaker P Q w no_node = no_node
nodes_weaker P Q w (last_node x) = last_node (weaker x w)
nodes_weaker P Q w (next_node x xs) = next_node x (nodes_weaker P Q w xs)

all_weaker : (P Q : Rests) (t : Text) {ns : Nodes} → ((r : Text) → MayFollow Q r → MayFollow P r) → NodesRead (last_rests t P) ns → NodesRead (last_rests t Q) ns
all_weaker P Q [] w x = nodes_weaker P Q w x
all_weaker P Q (c ∷ t) w x = x

content_weaker : (P Q : Rests) (l t : Text) (ns : Nodes) → ((r : Text) → MayFollow Q r → MayFollow P r) → ContentReads P l t ns → ContentReads Q l t ns
content_weaker P Q l t ns w (one_text g) = one_text (λ r q. g r (w r q))
content_weaker P Q l t ns w (two_texts a g) = two_texts a (λ r q. g r (w r q))
content_weaker P Q l t ns w (with_nodes a x g) = with_nodes a (all_weaker P Q t w x) (λ r q. g r (w r q))

-- a gap does not begin with U+FEFF
pub gap_alone : (t : Text) → Gap true t [] → without_bom t ≡ t
gap_alone t g = gap_without_bom t ((gap_items t).0 g).1

plain_says : (t : Text) (k : ℕ) → GapSays (without_bom t) k → Gap true t [] → AddsNothing (t ++ newlines k)
plain_says t k says g = subst (λ (z : Text). GapSays z k) (gap_alone t g) says g

-- a block that gets another leading text is before the same rests
same_rests : (o : Option DocumentFormat) (l : Option Text) (r : Text) → MayFollow (BlockEnd (led_with l o)) r → MayFollow (BlockEnd o) r
same_rests o None r m = m
same_rests None (Some t) r m = m
same_rests (Some f) (Some t) r m = m

-- what may follow the node that is put in
put_ends : (b : Bool) (i : ℕ) (d : KdlDocument) (rest : Rest) (n m : KdlNode) → IsRestAt b i d rest → EndsAs rest n m → NodeReadsBack n
    → (i < length (trees d) → NodeReads Anything (node_tree m)) × NodeReads (last_rests (trailing_text (texts_around d)) (rests_after b (texts_around d))) (node_tree m)
put_ends b i d Rest.End n m (e, (l, t)) s r =
    let x : NodeReads TextEnd (node_tree m) = subst (λ (z : KdlNode). NodeReads TextEnd (node_tree z)) (sym s) r in (
      λ h. absurd (omega (arith, length-map (nodes_of d) node_tree)),
      subst (λ (z : Text). NodeReads (last_rests z (rests_after b (texts_around d))) (node_tree m)) (sym t)
          (subst (λ (z : Bool). NodeReads (rests_after z (texts_around d)) (node_tree m)) (sym e) x),
    )
put_ends b i d Rest.Brace n m (e, f, k, (l, t)) s r = (
  λ h. absurd (omega (arith, length-map (nodes_of d) node_tree)),
  subst (λ (z : Text). NodeReads (last_rests z (rests_after b (texts_around d))) (node_tree m)) (sym t)
      (subst (λ (z : Bool). NodeReads (rests_after z (texts_around d)) (node_tree m)) (sym e)
      (subst (λ (z : Option DocumentFormat). NodeReads (BlockEnd z) (node_tree m)) (sym k) (s TextEnd f r))),
)
put_ends b i d Rest.Text n m w s r = let x = s TextEnd r in (λ h. x, ends_before (last_rests (trailing_text (texts_around d)) (rests_after b (texts_around d))) x)

-- the content of a document with a node put before all others
document_first : (o : Option DocumentFormat) (l : Option Text) (at to : SourceSpan) (ns : List Node) (put : Node) → LeadsExactly o l → (0 < length ns → NodeReads Anything put)
    → NodeReads (last_rests (trailing_text o) TextEnd) put → DocumentReads (document o at (listed_nodes ns)) → DocumentReads (document (led_with l o) to (listed_nodes (put ∷ ns)))
document_first o l at to ns put e a x (DocumentReads.no_bom c) =
    let printed = leads_printed e.0 o (led_with l o) e.2 in
    let same = leads_trailing e.0 o (led_with l o) e.2 in
    DocumentReads.no_bom (subst (λ (z : Text). ContentReads TextEnd (leading_text (led_with l o)) z (listed_nodes (put ∷ ns))) (sym same)
    (subst (λ (z : Text). ContentReads TextEnd z (trailing_text o) (listed_nodes (put ∷ ns))) (sym printed)
    (content_put_first TextEnd (leading_text o) (leading_text o ++ newlines e.0) (trailing_text o) ns put (plain_says (leading_text o) e.0 e.3) a x c)))
document_first o l at to ns put e a x (DocumentReads.after_bom {leading = m} h c) =
    let printed = leads_printed e.0 o (led_with l o) e.2 in
    let same = leads_trailing e.0 o (led_with l o) e.2 in
    let says : GapSays m e.0 = subst (λ (z : Text). GapSays (without_bom z) e.0) h e.3 in
    DocumentReads.after_bom (printed ∙ ap (λ (z : Text). z ++ newlines e.0) h) (subst (λ (z : Text). ContentReads TextEnd (m ++ newlines e.0) z (listed_nodes (put ∷ ns))) (sym same)
    (content_put_first TextEnd m (m ++ newlines e.0) (trailing_text o) ns put says a x c))

block_first : (o : Option DocumentFormat) (l : Option Text) (at to : SourceSpan) (ns : List Node) (put : Node) → LeadsExactly o l → (0 < length ns → NodeReads Anything put)
    → NodeReads (last_rests (trailing_text o) (BlockEnd o)) put → BlockReads (document o at (listed_nodes ns)) → BlockReads (document (led_with l o) to (listed_nodes (put ∷ ns)))
block_first o l at to ns put e a x (block c) =
    let printed = leads_printed e.0 o (led_with l o) e.2 in
    let same = leads_trailing e.0 o (led_with l o) e.2 in
    block (subst (λ (z : Text). ContentReads (BlockEnd (led_with l o)) (leading_text (led_with l o)) z (listed_nodes (put ∷ ns))) (sym same)
    (subst (λ (z : Text). ContentReads (BlockEnd (led_with l o)) z (trailing_text o) (listed_nodes (put ∷ ns))) (sym printed)
    (content_weaker (BlockEnd o) (BlockEnd (led_with l o)) (leading_text o ++ newlines e.0) (trailing_text o) (listed_nodes (put ∷ ns)) (same_rests o l)
    (content_put_first (BlockEnd o) (leading_text o) (leading_text o ++ newlines e.0) (trailing_text o) ns put (plain_says (leading_text o) e.0 e.3) a x c))))

-- its tree
tree_as : (d : KdlDocument) (o : Option DocumentFormat) (ns : List Node) → texts_around d ≡ o → trees d ≡ ns → document_tree d ≡ document o (out-KdlDocument d).span (listed_nodes ns)
tree_as d o ns e h =
    document_tree_out d ∙ ap (λ (z : Option DocumentFormat). document z (out-KdlDocument d).span (listed_nodes (trees d))) e
    ∙ ap (λ (z : List Node). document o (out-KdlDocument d).span (listed_nodes z)) h

first_tree : (n : KdlNode) (d e : KdlDocument) (p : PutFirst n d e) → document_tree e ≡ document (led_with p.leading (texts_around d)) (out-KdlDocument e).span (listed_nodes (node_tree n ∷ trees d))
first_tree n d e p = tree_as e (led_with p.leading (texts_around d)) (node_tree n ∷ trees d) p.texts (ap (map node_tree) p.nodes ∙ insert_trees (nodes_of d) 0 n)

-- what has to be allowed after a node that is put in: the nodes after it, and what follows the document
abbrev PutEnds : Bool → ℕ → KdlDocument → Node → Type 0
PutEnds b i d x = (i < length (trees d) → NodeReads Anything x) × NodeReads (last_rests (trailing_text (texts_around d)) (rests_after b (texts_around d))) x

first_reads : (b : Bool) (n : KdlNode) (d e : KdlDocument) → PutFirst n d e → PutEnds b 0 d (node_tree n) → ReadsIn b d → ReadsIn b e
first_reads true n d e p (a, x) r =
    subst DocumentReads (sym (first_tree n d e p))
    (document_first (texts_around d) p.leading (out-KdlDocument d).span (out-KdlDocument e).span (trees d) (node_tree n) p.exact a x (subst DocumentReads (document_tree_out d) r))
first_reads false n d e p (a, x) r =
    subst BlockReads (sym (first_tree n d e p))
    (block_first (texts_around d) p.leading (out-KdlDocument d).span (out-KdlDocument e).span (trees d) (node_tree n) p.exact a x (subst BlockReads (document_tree_out d) r))

abbrev with_after : ℕ → KdlNode → KdlNode → KdlDocument → List Node
with_after i m n d = insert (set (trees d) i (node_tree m)) (suc i) (node_tree n)

after_tree : (i : ℕ) (n : KdlNode) (d e : KdlDocument) (p : PutAfter i n d e)
    → document_tree e ≡ document (texts_around d) (out-KdlDocument e).span (listed_nodes (with_after i (end_with p.format p.last) n d))
after_tree i n d e p =
    let m = end_with p.format p.last in
    tree_as e (texts_around d) (with_after i m n d) (texts_kept d e p.rest)
    (ap (map node_tree) (p.nodes ∙ ap (λ (z : ℕ). insert (set (nodes_of d) i m) z n) (add-one i)) ∙ insert_trees (set (nodes_of d) i m) (suc i) n
    ∙ ap (λ (z : List Node). insert z (suc i) (node_tree n)) (map-set node_tree (nodes_of d) i m))

after_content : (P : Rests) (i : ℕ) (n : KdlNode) (d e : KdlDocument) (p : PutAfter i n d e) (l : Text) → (suc i < length (trees d) → NodeReads Anything (node_tree n))
    → NodeReads (last_rests (trailing_text (texts_around d)) P) (node_tree n) → ContentReads P l (trailing_text (texts_around d)) (listed_nodes (trees d))
    → ContentReads P l (trailing_text (texts_around d)) (listed_nodes (with_after i (end_with p.format p.last) n d))
after_content P i n d e p l a x c =
    content_put P i l (trailing_text (texts_around d)) (trees d) (node_tree p.last) (node_tree (end_with p.format p.last)) (node_tree n)
    (slice_get-map node_tree (nodes_of d) i ∙ ap (option_map node_tree) p.there) p.reads a x c

block_of : {o : Option DocumentFormat} {at : SourceSpan} {ns : Nodes} → BlockReads (document o at ns) → ContentReads (BlockEnd o) (leading_text o) (trailing_text o) ns
block_of (block c) = c

after_reads : (b : Bool) (i : ℕ) (n : KdlNode) (d e : KdlDocument) → PutAfter i n d e → PutEnds b (suc i) d (node_tree n) → ReadsIn b d → ReadsIn b e
after_reads true i n d e p (a, x) r =
    subst DocumentReads (sym (after_tree i n d e p))
    (whole_as (texts_around d) (out-KdlDocument d).span (out-KdlDocument e).span (listed_nodes (trees d)) (listed_nodes (with_after i (end_with p.format p.last) n d))
    (λ l c. after_content TextEnd i n d e p l a x c) (subst DocumentReads (document_tree_out d) r))
after_reads false i n d e p (a, x) r =
    subst BlockReads (sym (after_tree i n d e p)) (block (after_content (BlockEnd (texts_around d)) i n d e p (leading_text (texts_around d)) a x (block_of (subst BlockReads (document_tree_out d) r))))

-- a node put in at the index j
pub put_after_reads : (b : Bool) (i j : ℕ) (d e : KdlDocument) (rest : Rest) (n : KdlNode) (own : Option KdlNodeFormat) → suc i ≡ j → IsRestAt b j d rest → EndsAs rest n (end_with own n)
    → PutAfter i (end_with own n) d e → ReadsIn b d → NodeReadsBack n → ReadsIn b e
put_after_reads b i j d e rest n own h at w p r x =
    after_reads b i (end_with own n) d e p (put_ends b (suc i) d rest n (end_with own n) (subst (λ (k : ℕ). IsRestAt b k d rest) (sym h) at) w x) r

pub put_first_reads : (b : Bool) (j : ℕ) (d e : KdlDocument) (rest : Rest) (n : KdlNode) (own : Option KdlNodeFormat) → 0 ≡ j → IsRestAt b j d rest → EndsAs rest n (end_with own n)
    → PutFirst (end_with own n) d e → ReadsIn b d → NodeReadsBack n → ReadsIn b e
put_first_reads b j d e rest n own h at w p r x =
    first_reads b (end_with own n) d e p (put_ends b 0 d rest n (end_with own n) (subst (λ (k : ℕ). IsRestAt b k d rest) (sym h) at) w x) r
