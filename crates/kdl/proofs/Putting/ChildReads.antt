-- Nodes that read back, with a child put into their block, or into a new one.
use Rattle.kdl.proofs.Common.{◌≡◌, inl, inr, ℕ, [], ◌∷◌, ◌++◌, ap, ◌∙◌, sym, refl, subst, Option, Some, None, option_map, Result, Ok, Err, OnErr, OnOk, Text, Terminator, no_gap, last_gap, BeforeChildren, after, Rests, MayFollow, terminator_text, EndReads, NodeReads, reads, a_block, BlockReads, NodeFormat, Head, node, no_children, children, children_of, Document, before_alone, node_texts, KdlNodeFormat, with_children, with_format, new_document, BlockBegins, PlaceSays, ReadsIn, block_format, newlines, NodeReadsBack, ReadsAs, document_tree, head_tree, node_tree, KdlDocument, out-KdlNode, out-roll-KdlNode, KdlNode, false}
use Rattle.std.proofs.Common.{append-nil}
use Rattle.kdl_text.specs.Chars.{none as no_star}
use Rattle.kdl_grammar.specs.Data as data'
use Rattle.kdl_grammar.specs.ReadsBack.{NodesEnd}
use Rattle.kdl_layout.proofs.Lacking.Alone.{before_brace}
use Rattle.kdl.specs.Internal.Ends.{BlockSays}
use Rattle.kdl.proofs.Putting.PutReads.{may_end}
use Rattle.kdl.proofs.ReadingBack.{block_exchanged, new_block_reads}
use Rattle.kdl.proofs.Trees.{NodeFields, node_tree_out, node_tree_roll}

-- what is before the terminator of a node without a block, alone
place_alone : (P : Rests) (f : NodeFormat) → EndReads P no_children f → BeforeChildren f.before_terminator []
place_alone P f end = elim (may_end P) [ inl m ↦ at [] m (inl refl) | inr m ↦ at (125 ∷ []) m (inr ([], refl)) ]
  where
    at : (q : Text) → MayFollow P q → NodesEnd q → BeforeChildren f.before_terminator []
    at q m z = let t = end.terminator q q data'.none m z (last_gap no_gap) in before_alone f.before_terminator (terminator_text f ++ q) (end.place q m t.1)

-- with what it lacks, or as it is where it lacks nothing, it is before a block
block_says : (t : Text) (n : ℕ) → PlaceSays no_children t n → BeforeChildren t [] → (s : Text) → BeforeChildren ((t ++ newlines n) ++ (123 ∷ s)) (123 ∷ s)
block_says t n says h s = before_brace (t ++ newlines n) s (says h (125 ∷ []) (125 ∷ []) Terminator.at_close)

pub text_says : (o : Option NodeFormat) (f : NodeFormat) (n : ℕ) (u t : Text) → o ≡ Some f → u ≡ f.before_terminator → PlaceSays no_children u n → t ≡ f.before_terminator ++ newlines n → BlockSays o (Some t)
text_says o f n u t e q says k g i h s =
    let same : f ≡ g = cc in
    let own : u ≡ g.before_terminator = q ∙ ap (λ (z : NodeFormat). z.before_terminator) same in
    subst (λ (z : Text). BeforeChildren (z ++ (123 ∷ s)) (123 ∷ s)) (ap (λ (z : Text). z ++ newlines n) q ∙ sym k) (block_says u n says (subst (λ (z : Text). BeforeChildren z []) (sym own) h) s)

pub place_says : (o : Option NodeFormat) (f : NodeFormat) (n : ℕ) (u : Text) → o ≡ Some f → u ≡ f.before_terminator → n ≡ 0 → PlaceSays no_children u n → BlockSays o None
place_says o f n u e q z says g i h s =
    let same : f ≡ g = cc in
    let own : u ≡ g.before_terminator = q ∙ ap (λ (z : NodeFormat). z.before_terminator) same in
    subst (λ (y : Text). BeforeChildren (y ++ (123 ∷ s)) (123 ∷ s)) (append-nil u ∙ own)
    (block_says u 0 (subst (PlaceSays no_children u) z says) (subst (λ (y : Text). BeforeChildren y []) (sym own) h) s)

-- the node with a block that reads back
block_put : (P : Rests) (h : Head) (o : Option Text) (d : Document) → BlockSays h.format o → BlockReads d → NodeReads P (node h no_children)
    → NodeReads P (node (record h { format = option_map (block_format o) h.format }) (children d))
block_put P h o d says b (reads {f = f} e head kids end) =
    reads {f = block_format o f} (ap (option_map (block_format o)) e) (record { leading = head.leading; name = λ v x. head.name v x; entries = head.entries }) (a_block (says f e (place_alone P f end)) b)
    (record { place = λ r p t. after no_star no_star; terminator = end.terminator })

-- its tree
block_tree : (m x : KdlNode) (e : KdlDocument) (g : Option KdlNodeFormat) (o : Option Text) → x ≡ with_format m g → node_texts g ≡ option_map (block_format o) (node_texts (out-KdlNode m).format)
    → node_tree (with_children x (Some e)) ≡ node (record (head_tree (out-KdlNode m)) { format = option_map (block_format o) (node_texts (out-KdlNode m).format) }) (children (document_tree e))
block_tree m x e g o s t =
    let h = head_tree (out-KdlNode m) in
    ap (λ (z : KdlNode). node_tree (with_children z (Some e))) s
    ∙ node_tree_roll (record (out-KdlNode (with_format m g)) { children = Some e })
    ∙ ap (λ (z : NodeFields). node (head_tree z) (children (document_tree e))) (out-roll-KdlNode (record (out-KdlNode m) { format = g }))
    ∙ ap (λ (z : Option NodeFormat). node (record h { format = z }) (children (document_tree e))) t

-- a child in a new block
pub new_child_reads : (n m m' x : KdlNode) (d e : KdlDocument) (o : Option Text) → (out-KdlNode m).children ≡ None → document_tree d ≡ new_document → (ReadsIn false d → NodeReadsBack n → ReadsIn false e)
    → BlockSays (node_texts (out-KdlNode m).format) o → BlockBegins o m x → m' ≡ with_children x (Some e) → NodeReadsBack n → ReadsAs m m'
new_child_reads n m m' x d e o k made put says (g, s, t) r c P y =
    let h = head_tree (out-KdlNode m) in
    let own : NodeReads P (node h no_children) =
    subst (λ (z : Option KdlDocument). NodeReads P (node h (children_of (option_map document_tree z)))) k (subst (NodeReads P) (node_tree_out m) y) in
    subst (NodeReads P) (sym (ap node_tree r ∙ block_tree m x e g o s t)) (block_put P h o (document_tree e) says (put (new_block_reads d made) c) own)

-- a child in the block of the node, or none where the call is refused
pub child_reads : {T E : Type 0} (r : Result T E) (n m : KdlNode) (d e : KdlDocument) → (out-KdlNode m).children ≡ Some d → OnOk r (ReadsIn false d → NodeReadsBack n → ReadsIn false e)
    → OnErr r (document_tree e ≡ document_tree d) → NodeReadsBack n → ReadsAs m (with_children m (Some e))
child_reads (Ok a) n m d e h put same c = block_exchanged m d e h (λ b. put b c)
child_reads (Err a) n m d e h put same c = block_exchanged m d e h (subst BlockReads (sym same))
