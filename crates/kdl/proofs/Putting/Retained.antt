-- Documents that read back, with some of their nodes.
use Rattle.kdl.proofs.Common.{◌≡◌, Bool, true, false, List, [], ◌∷◌, Vec, Global, Option, map, ap, ◌∙◌, sym, refl, subst, arith, Text, SourceSpan, trailing_text, Rests, TextEnd, NodesRead, ContentReads, DocumentReads, DocumentFormat, Node, document, listed_nodes, nodes_of, texts_around, trees, DocumentReadsBack, document_tree, node_tree, KdlDocument, out-KdlDocument, KdlNode}
use Rattle.std.specs.List.{items_where_true}
use Rattle.std.specs.List.Retain.{IsFiltered}
use Rattle.kdl_grammar.specs.ReadsBack.{with_nodes}
use Rattle.kdl_grammar.proofs.ReadingBack.Composing.{nodes_append, nodes_drop, nodes_take}
use Rattle.kdl_layout.proofs.Formatting.PartsRead.{content_with}
use Rattle.kdl.specs.Change as change
use Rattle.kdl.proofs.Putting.Puts.{nodes_with, span_kept, texts_kept, with_nodes_own}
use Rattle.kdl.proofs.ReadingBack.{whole_as}
use Rattle.kdl.proofs.Trees.{document_tree_out}

none_kept : {A : Type 0} (bs : List Bool) → items_where_true {X = A} bs [] ≡ []
none_kept [] = refl
none_kept (b ∷ bs) = refl

kept_map : {A B : Type 0} (f : A → B) (bs : List Bool) (xs : List A) → map f (items_where_true bs xs) ≡ items_where_true bs (map f xs)
kept_map f [] xs = refl
kept_map f (b ∷ bs) [] = refl
kept_map f (true ∷ bs) (x ∷ xs) = ap (λ z. f x ∷ z) (kept_map f bs xs)
kept_map f (false ∷ bs) (x ∷ xs) = kept_map f bs xs

-- a node that is kept, before those that are kept of the nodes after it
one_kept : {P : Rests} (n : Node) (ns ms : List Node) → (ns ≡ [] → ms ≡ []) → NodesRead P (listed_nodes (n ∷ ns)) → NodesRead P (listed_nodes ms) → NodesRead P (listed_nodes (n ∷ ms))
one_kept {P = P} n [] ms e c x = subst (λ (z : List Node). NodesRead P (listed_nodes (n ∷ z))) (sym (e refl)) c
one_kept n (m ∷ ns) ms e c x = nodes_append (n ∷ []) ms (nodes_take 1 (n ∷ m ∷ ns) (omega arith) c) x

nodes_kept : {P : Rests} (bs : List Bool) (ns : List Node) → NodesRead P (listed_nodes ns) → NodesRead P (listed_nodes (items_where_true bs ns))
nodes_kept [] ns c = NodesRead.no_node
nodes_kept (b ∷ bs) [] c = NodesRead.no_node
nodes_kept (true ∷ bs) (n ∷ ns) c = one_kept n ns (items_where_true bs ns) (λ e. ap (items_where_true bs) e ∙ none_kept bs) c (nodes_kept bs ns (nodes_drop 1 (n ∷ ns) c))
nodes_kept (false ∷ bs) (n ∷ ns) c = nodes_kept bs ns (nodes_drop 1 (n ∷ ns) c)

content_kept : (P : Rests) (l t : Text) (bs : List Bool) (ns : List Node) → ContentReads P l t (listed_nodes ns) → ContentReads P l t (listed_nodes (items_where_true bs ns))
content_kept P l t bs [] c = subst (λ (z : List Node). ContentReads P l t (listed_nodes z)) (sym (none_kept bs)) c
content_kept P l t bs (n ∷ ns) (with_nodes a x g) = content_with (listed_nodes (items_where_true bs (n ∷ ns))) a (nodes_kept bs (n ∷ ns) x) g

kept_reads : (bs : List Bool) (d e : KdlDocument) → nodes_of e ≡ items_where_true bs (nodes_of d) → e ≡ change.with_nodes d (out-KdlDocument e).nodes → DocumentReadsBack d → DocumentReadsBack e
kept_reads bs d e k r x =
    let old : DocumentReads (document (texts_around d) (out-KdlDocument d).span (listed_nodes (trees d))) = subst DocumentReads (document_tree_out d) x in
    let new : document_tree e ≡ document (texts_around d) (out-KdlDocument d).span (listed_nodes (items_where_true bs (trees d))) =
    document_tree_out e ∙ ap (λ (o : Option DocumentFormat). document o (out-KdlDocument e).span (listed_nodes (trees e))) (texts_kept d e r)
    ∙ ap (λ (z : SourceSpan). document (texts_around d) z (listed_nodes (trees e))) (span_kept d e r)
    ∙ ap (λ (z : List Node). document (texts_around d) (out-KdlDocument d).span (listed_nodes z)) (ap (λ (z : List KdlNode). map node_tree z) k ∙ kept_map node_tree bs (nodes_of d)) in
    subst DocumentReads (sym new) (whole_as (texts_around d) (out-KdlDocument d).span (out-KdlDocument d).span _ _ (λ l c. content_kept TextEnd l (trailing_text (texts_around d)) bs (trees d) c) old)

pub retained_reads : {F : Type 0} (R : F → KdlNode → Bool → F → Type 0) (f : F) (d : KdlDocument) (v : Vec KdlNode Global) → IsFiltered R f (nodes_of d) v.items → DocumentReadsBack d → DocumentReadsBack (change.with_nodes d v)
retained_reads R f d v h = kept_reads h.0 d (change.with_nodes d v) (nodes_with d v ∙ h.4) (with_nodes_own d v)
