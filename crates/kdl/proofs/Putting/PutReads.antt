-- Documents that read back, with a node added or removed.
use Rattle.kdl.proofs.Common.{◌≡◌, ◌⊎◌, inl, inr, ℕ, zero, suc, ◌<◌, true, List, [], ◌∷◌, ◌++◌, length, map, take, drop, set, ap, ◌∙◌, sym, refl, subst, append_assoc, arith, Bool, is_some, unwrap_or, Option, Some, None, option_map, slice_get, Result, Ok, Err, IfOk, append-nil, get_or_from_slice_get, slice_get_within, slice_get-map, insert, remove, Text, ValueEnd, SourceSpan, Terminator, Gap, no_gap, last_gap, BeforeChildren, AfterChildren, trailing_text, Rests, Anything, TextEnd, BlockEnd, MayFollow, terminator_text, Terminates, AddsNothing, IsGapBefore, BeforeTerminator, EndReads, last_rests, NodeReads, reads, a_block, NodesRead, last_node, next_node, ContentReads, one_text, two_texts, DocumentReads, DocumentFormat, NodeFormat, Head, Node, node, Children, no_children, children, children_of, Document, document, listed_nodes, node_before, before_alone, a_newline, nodes_of, EndSays, EndsAs, EndsReadAs, IsEndedBy, PlaceSays, block_if, end_newlines, end_with, formless_count, with_newlines, node_format_tree, node_texts, KdlNodeFormat, format_or_printed, newlines, printed_format, texts_around, trees, DocumentReadsBack, NodeReadsBack, document_tree, head_tree, node_tree, new_document, Rest, KdlDocument, out-KdlDocument, out-KdlNode, KdlNode}
use Rattle.kdl_text.specs.Internal.Here.{first as first_char}
use Rattle.kdl_syntax.proofs.Moving.Puts.{same_piece}
use Rattle.kdl_grammar.specs.Data as data'
use Rattle.kdl_grammar.specs.Grammar.{AreNodes}
use Rattle.kdl_grammar.specs.ReadsBack.{HeadReads, ChildrenRead, no_block, with_nodes}
use Rattle.kdl_grammar.proofs.Moving.Moves.{move_after, move_before, terminator_end}
use Rattle.kdl_grammar.proofs.ReadingBack.Composing.{nodes_append, nodes_drop, nodes_take}
use Rattle.kdl_layout.specs.Lacks.{Terminating}
use Rattle.kdl_layout.proofs.Lacking.Alone.{after_before_close, gap_before_close, terminator_before_close}
use Rattle.kdl.specs.Change as change
use Rattle.kdl.proofs.Putting.Puts.{remove_trees, texts_kept}
use Rattle.kdl.proofs.ReadingBack.{nodes_read_back, whole_as}
use Rattle.kdl_layout.proofs.Formatting.PartsRead.{content_with}
use Rattle.kdl.proofs.Trees.{document_tree_out, node_tree_out, node_tree_roll}

-- a node removed
content_taken : (P : Rests) (l t : Text) (ns : List Node) (i : ℕ) → i < length ns → ContentReads P l t (listed_nodes ns) → ContentReads P l t (listed_nodes (remove ns i))
content_taken P l t [] i h c = absurd (omega arith)
content_taken P l t (n ∷ ns) i h (with_nodes a x g) =
    content_with (listed_nodes (remove (n ∷ ns) i)) a (nodes_append (take i (n ∷ ns)) (drop (suc i) (n ∷ ns)) (nodes_take i (n ∷ ns) h x) (nodes_drop (suc i) (n ∷ ns) x)) g

pub taken_reads : (i : ℕ) (n : KdlNode) (d e : KdlDocument) → slice_get (nodes_of d) i ≡ Some n → nodes_of e ≡ remove (nodes_of d) i → e ≡ change.with_nodes d (out-KdlDocument e).nodes
    → (out-KdlDocument e).span ≡ (out-KdlDocument d).span → DocumentReadsBack d → DocumentReadsBack e × NodeReadsBack n
taken_reads i n d e h k r s x =
    let there : slice_get (trees d) i ≡ Some (node_tree n) = slice_get-map node_tree (nodes_of d) i ∙ ap (option_map node_tree) h in
    let old : DocumentReads (document (texts_around d) (out-KdlDocument d).span (listed_nodes (trees d))) = subst DocumentReads (document_tree_out d) x in
    let new : document_tree e ≡ document (texts_around d) (out-KdlDocument d).span (listed_nodes (remove (trees d) i)) =
    document_tree_out e ∙ ap (λ (o : Option DocumentFormat). document o (out-KdlDocument e).span (listed_nodes (trees e))) (texts_kept d e r)
    ∙ ap (λ (z : SourceSpan). document (texts_around d) z (listed_nodes (trees e))) s
    ∙ ap (λ (z : List Node). document (texts_around d) (out-KdlDocument d).span (listed_nodes z)) (ap (λ (z : List KdlNode). map node_tree z) k ∙ remove_trees (nodes_of d) i) in (
      subst DocumentReads (sym new)
          (whole_as (texts_around d) (out-KdlDocument d).span (out-KdlDocument d).span _ _ (λ l c. content_taken TextEnd l (trailing_text (texts_around d)) (trees d) i (slice_get_within (trees d) i (node_tree n) there) c) old),
      subst NodeReadsBack (get_or_from_slice_get (nodes_of d) i n n h) (nodes_read_back d x i n (slice_get_within (nodes_of d) i n h)),
    )

-- the end of a node, by its texts
end_read : (P : Rests) (k : Children) (g : NodeFormat) (bt z : Text) → g.before_terminator ≡ bt → terminator_text g ≡ z
    → ((r v : Text) → MayFollow P r → Terminator (z ++ r) v → BeforeTerminator k (bt ++ (z ++ r)) (z ++ r)) → Terminates P z → EndReads P k g
end_read P k g bt z h e place x = record { place = λ r p t. at r p t; terminator = subst (Terminates P) (sym e) x }
  where
    at : (r : Text) {v : Text} → MayFollow P r → Terminator (terminator_text g ++ r) v → BeforeTerminator k (g.before_terminator ++ (terminator_text g ++ r)) (terminator_text g ++ r)
    at r {v} p t =
        let here = place r v p (subst (λ (u : Text). Terminator (u ++ r) v) e t) in
        subst (λ (b : Text). BeforeTerminator k (b ++ (terminator_text g ++ r)) (terminator_text g ++ r)) (sym h)
        (subst (λ (u : Text). BeforeTerminator k (bt ++ (u ++ r)) (u ++ r)) (sym e) here)

texts_before : (f : NodeFormat) (t : Text) (b e : ℕ) → (end_newlines t e (record f { before_terminator = f.before_terminator ++ newlines b; trailing = t })).before_terminator ≡ f.before_terminator ++ newlines b
texts_before f [] b e = refl
texts_before f (c ∷ s) b e = refl

texts_after : (f : NodeFormat) (t : Text) (b e : ℕ) → terminator_text (end_newlines t e (record f { before_terminator = f.before_terminator ++ newlines b; trailing = t })) ≡ (f.terminator ++ t) ++ newlines e
texts_after f [] b e = rw (append-nil f.terminator) (append-nil (f.terminator ++ newlines e))
texts_after f (c ∷ s) b e = sym (append_assoc f.terminator (c ∷ s) (newlines e))

lf_ends : Terminates Anything (10 ∷ [])
lf_ends = λ r s xs p z d. (r, Terminator.newline (a_newline r), d)

-- a place before another rest that begins alike
pub place_moves : (k : Children) (bt u x : Text) → BeforeTerminator k (bt ++ u) u → first_char x ≡ first_char u → ValueEnd true x → BeforeTerminator k (bt ++ x) x
place_moves no_children bt u x c h e = let m = move_before c in subst (λ (y : Text). BeforeChildren y x) (same_piece bt m.at refl x) (m.there x h e)
place_moves (children d) bt u x c h e = let m = move_after c in subst (λ (y : Text). AfterChildren y x) (same_piece bt m.at refl x) (m.there x h)

gap_of : {v : Text} → AreNodes true v [] data'.none → Gap true v []
gap_of (last_gap g) = g

-- the end of the text, or a `}`, is among the rests
pub may_end : (P : Rests) → MayFollow P [] ⊎ MayFollow P (125 ∷ [])
may_end Anything = inl tt
may_end TextEnd = inl refl
may_end (BlockEnd None) = inr (0, [], refl)
may_end (BlockEnd (Some f)) = inr ([], refl)

before_close : (k : Children) (t u : Text) → BeforeTerminator k (t ++ (125 ∷ u)) (125 ∷ u) → BeforeTerminator k t []
before_close no_children t u c = before_alone t (125 ∷ u) c
before_close (children d) t u c = after_before_close t u c

-- without a terminator, the place before the end of the text
place_alone : (P : Rests) (k : Children) (f : NodeFormat) → terminator_text f ≡ [] → EndReads P k f → BeforeTerminator k f.before_terminator []
place_alone P k f z end = elim (may_end P) [ inl m ↦ at_end m | inr m ↦ at_brace m ]
  where
    here : (q v : Text) → MayFollow P q → Terminator q v → BeforeTerminator k (f.before_terminator ++ q) q
    here q v m t =
        subst (λ (u : Text). BeforeTerminator k (f.before_terminator ++ (u ++ q)) (u ++ q)) z
        (end.place q m (subst (λ (u : Text). Terminator (u ++ q) v) (sym z) t))

    at_end : MayFollow P [] → BeforeTerminator k f.before_terminator []
    at_end m = subst (λ (u : Text). BeforeTerminator k u []) (append-nil f.before_terminator) (here [] [] m Terminator.at_end)

    at_brace : MayFollow P (125 ∷ []) → BeforeTerminator k f.before_terminator []
    at_brace m = before_close k f.before_terminator [] (here (125 ∷ []) (125 ∷ []) m Terminator.at_close)

-- a node without a terminator, with the newlines that it lacks
open_end : (P Q : Rests) (k : Children) (f : NodeFormat) (b e : ℕ) → terminator_text f ≡ [] → PlaceSays k f.before_terminator b → Terminates Q (newlines e) → EndReads P k f → EndReads Q k (with_newlines f b e)
open_end P Q k f b e z says ends end =
    let place = says (place_alone P k f z end) in
    end_read Q k (with_newlines f b e) (f.before_terminator ++ newlines b) (newlines e) (texts_before f f.trailing b e) (texts_after f f.trailing b e ∙ ap (λ (u : Text). u ++ newlines e) z)
    (λ r v p t. place (newlines e ++ r) v t) ends

-- before a `}` it needs none
brace_ends : (d : DocumentFormat) → Terminates (BlockEnd (Some d)) []
brace_ends d r s xs (t, e) z a = (r, subst (λ (u : Text). Terminator u u) (sym e) Terminator.at_close, a)

like : (z : Text) (c : ℕ) (s n r q : Text) → z ≡ c ∷ s → first_char ((z ++ n) ++ r) ≡ first_char (z ++ q)
like z c s n r q e = rw e refl

some_char : (z : Text) (c : ℕ) (s : Text) → z ≡ c ∷ s → z ≡ [] → ⊥
some_char z c s e h = cc

-- a terminator gets the newlines that it lacks
closed_at : (P : Rests) (k : Children) (f : NodeFormat) (e c : ℕ) (s q v : Text) → MayFollow P q → terminator_text f ≡ c ∷ s → Terminator (terminator_text f ++ q) v → Terminating (terminator_text f)
    → EndSays (terminator_text f) e → EndReads P k f → EndReads Anything k (with_newlines f 0 e)
closed_at P k f e c s q v m z t alone says end =
    let place : BeforeTerminator k (f.before_terminator ++ (terminator_text f ++ q)) (terminator_text f ++ q) = end.place q m t in
    end_read Anything k (with_newlines f 0 e) f.before_terminator (terminator_text f ++ newlines e) (texts_before f f.trailing 0 e ∙ append-nil f.before_terminator) (texts_after f f.trailing 0 e)
    (λ r w p u. place_moves k f.before_terminator (terminator_text f ++ q) ((terminator_text f ++ newlines e) ++ r) place (like (terminator_text f) c s (newlines e) r q z) (terminator_end u))
    (says alone.0 alone.1 alone.2)

closed_ends : (P : Rests) (k : Children) (f : NodeFormat) (e c : ℕ) (s : Text) → terminator_text f ≡ c ∷ s → EndSays (terminator_text f) e → EndReads P k f → EndReads Anything k (with_newlines f 0 e)
closed_ends P k f e c s z says end = elim (may_end P) [ inl m ↦ at_end m | inr m ↦ at_brace m ]
  where
    at_end : MayFollow P [] → EndReads Anything k (with_newlines f 0 e)
    at_end m =
        let t = end.terminator [] [] data'.none m (inl refl) (last_gap no_gap) in
        let alone : Terminating (terminator_text f) = (t.0, subst (λ (u : Text). Terminator u t.0) (append-nil (terminator_text f)) t.1, gap_of t.2) in
        closed_at P k f e c s [] t.0 m z t.1 alone says end

    at_brace : MayFollow P (125 ∷ []) → EndReads Anything k (with_newlines f 0 e)
    at_brace m =
        let b : Text = 125 ∷ [] in
        let t = end.terminator b b data'.none m (inr ([], refl)) (last_gap no_gap) in
        closed_at P k f e c s b t.0 m z t.1 (terminator_before_close (terminator_text f) [] t.0 (some_char (terminator_text f) c s z) t.1 t.2) says end

-- a node with another end
block_kept : {c : Children} {f g : NodeFormat} → g.before_children ≡ f.before_children → ChildrenRead f c → ChildrenRead g c
block_kept e no_block = no_block
block_kept e (a_block b d) = a_block (λ t. subst (λ (u : Text). BeforeChildren (u ++ (123 ∷ t)) (123 ∷ t)) (sym e) (b t)) d

same_some : {A : Type 0} (x y : A) (o : Option A) → o ≡ Some x → o ≡ Some y → x ≡ y
same_some x y o h k = let e : Some x ≡ Some y = sym h ∙ k in cc

end_exchanged : (P Q : Rests) (h : Head) (c : Children) (f : NodeFormat) (b t u : Text) → h.format ≡ Some f
    → (EndReads P c f → EndReads Q c (record f { before_terminator = b; terminator = t; trailing = u }))
    → NodeReads P (node h c) → NodeReads Q (node (record h { format = Some (record f { before_terminator = b; terminator = t; trailing = u }) }) c)
end_exchanged P Q h c f b t u k x (reads {f = g} e head kids end) =
    let same : g ≡ f = same_some g f h.format e k in
    let head' : HeadReads h f = subst (HeadReads h) same head in
    let kids' : ChildrenRead f c = subst (λ (z : NodeFormat). ChildrenRead z c) same kids in
    reads refl (record { leading = head'.leading; name = λ v d. head'.name v d; entries = head'.entries }) (block_kept refl kids') (x (subst (EndReads P c) same end))

-- a node put after the one at i, which ends by itself then
nodes_put : (P : Rests) (i : ℕ) (ns : List Node) (old new put : Node) → slice_get ns i ≡ Some old → ((Q : Rests) → NodeReads Q old → NodeReads Anything new)
    → (suc i < length ns → NodeReads Anything put) → NodeReads P put → NodesRead P (listed_nodes ns) → NodesRead P (listed_nodes (insert (set ns i new) (suc i) put))
nodes_put P i [] old new put h f a p x = absurd (cc)
nodes_put P zero (n ∷ []) old new put h f a p (last_node x) = let e : n ≡ old = cc in next_node (f P (subst (NodeReads P) e x)) (last_node p)
nodes_put P zero (n ∷ k ∷ ks) old new put h f a p (next_node x xs) = let e : n ≡ old = cc in next_node (f Anything (subst (NodeReads Anything) e x)) (next_node (a (omega arith)) xs)
nodes_put P (suc i) (n ∷ []) old new put h f a p x = absurd (cc)
nodes_put P (suc i) (n ∷ k ∷ ks) old new put h f a p (next_node x xs) = node_before x (nodes_put P i (k ∷ ks) old new put h f (λ l. a (omega arith)) p xs)

-- a node put before all others
nodes_put_first : (P : Rests) (ns : List Node) (put : Node) → (0 < length ns → NodeReads Anything put) → NodeReads P put → NodesRead P (listed_nodes ns) → NodesRead P (listed_nodes (put ∷ ns))
nodes_put_first P [] put a p x = last_node p
nodes_put_first P (n ∷ ns) put a p x = next_node (a (omega arith)) x

-- a document with a node put after another one; and before all others, where the leading text got the newlines that it lacked
pub content_put : (P : Rests) (i : ℕ) (l t : Text) (ns : List Node) (old new put : Node) → slice_get ns i ≡ Some old → ((Q : Rests) → NodeReads Q old → NodeReads Anything new)
    → (suc i < length ns → NodeReads Anything put) → NodeReads (last_rests t P) put → ContentReads P l t (listed_nodes ns) → ContentReads P l t (listed_nodes (insert (set ns i new) (suc i) put))
content_put P i l t [] old new put h f a p c = absurd (cc)
content_put P i l t (n ∷ ns) old new put h f a p (with_nodes b x g) =
    content_with (listed_nodes (insert (set (n ∷ ns) i new) (suc i) put)) b (nodes_put (last_rests t P) i (n ∷ ns) old new put h f a p x) g

alone_gap : (P : Rests) (l : Text) → IsGapBefore P l → Gap true l []
alone_gap P l g = elim (may_end P) [ inl m ↦ subst (λ (u : Text). Gap true u []) (append-nil l) (g [] m) | inr m ↦ gap_before_close l [] (g (125 ∷ []) m) ]

adding_gap : (l : Text) → AddsNothing l → Gap true l []
adding_gap l b = subst (λ (u : Text). Gap true u []) (append-nil l) (gap_of (b [] [] data'.none (inl refl) (last_gap no_gap)))

pub content_put_first : (P : Rests) (l m t : Text) (ns : List Node) (put : Node) → (Gap true l [] → AddsNothing m) → (0 < length ns → NodeReads Anything put) → NodeReads (last_rests t P) put
    → ContentReads P l t (listed_nodes ns) → ContentReads P m t (listed_nodes (put ∷ ns))
content_put_first P l m t [] put e a p (one_text g) = with_nodes (e (alone_gap P l g)) (last_node p) (λ r q. no_gap)
content_put_first P l m t [] put e a p (two_texts b g) = with_nodes (e (adding_gap l b)) (last_node p) g
content_put_first P l m t (n ∷ ns) put e a p (with_nodes b x g) = with_nodes (e (adding_gap l b)) (nodes_put_first (last_rests t P) (n ∷ ns) put a p x) g

-- a node that ends as its format does
moved : (P : Rests) (d e : Document) (f : NodeFormat) → EndReads P (children d) f → EndReads P (children e) f
moved P d e f x = record { place = λ r p t. x.place r p t; terminator = x.terminator }

kept_end : (rest : Rest) (o : Option Document) (c : Children) (f g : NodeFormat) → c ≡ children_of o → EndsReadAs rest (block_if (is_some o)) f g → EndsReadAs rest c f g
kept_end rest None c f g e x = subst (λ (z : Children). EndsReadAs rest z f g) (sym e) x
kept_end Rest.End (Some d) c f g e x = tt
kept_end Rest.Brace (Some d) c f g e x = subst (λ (z : Children). EndsReadAs Rest.Brace z f g) (sym e) (λ P b y. moved (BlockEnd (Some b)) new_document d g (x P b (moved P d new_document f y)))
kept_end Rest.Text (Some d) c f g e x = subst (λ (z : Children). EndsReadAs Rest.Text z f g) (sym e) (λ P y. moved Anything new_document d g (x P (moved P d new_document f y)))

format_exchanged : (P Q : Rests) (h : Head) (c : Children) (f g : NodeFormat) → h.format ≡ Some f → g ≡ record f { before_terminator = g.before_terminator; terminator = g.terminator; trailing = g.trailing }
    → (EndReads P c f → EndReads Q c g) → NodeReads P (node h c) → NodeReads Q (node (record h { format = Some g }) c)
format_exchanged P Q h c f g k s x r =
    subst (λ (z : NodeFormat). NodeReads Q (node (record h { format = Some z }) c)) (sym s)
    (end_exchanged P Q h c f g.before_terminator g.terminator g.trailing k (λ y. subst (EndReads Q c) s (x y)) r)

own_format : (P Q : Rests) (h : Head) (c : Children) → ((f : NodeFormat) → h.format ≡ Some f → EndReads P c f → EndReads Q c f) → NodeReads P (node h c) → NodeReads Q (node h c)
own_format P Q h c x (reads {f = f} e head kids end) = reads e head kids (x f e end)

has_format : (P : Rests) (h : Head) (c : Children) → NodeReads P (node h c) → (f : NodeFormat) × (h.format ≡ Some f)
has_format P h c (reads {f = f} e head kids end) = (f, e)

-- its block, as a tree
abbrev pub block_of : KdlNode → Option Document
block_of n = option_map document_tree (out-KdlNode n).children

node_changed : (P Q : Rests) (k : ℕ) (n : KdlNode) (o : Option KdlNodeFormat) → IsEndedBy k (format_or_printed (head_tree (out-KdlNode n))) (node_texts o)
    → ((f : NodeFormat) → node_texts (out-KdlNode n).format ≡ Some f → EndReads P (children_of (block_of n)) f → EndReads Q (children_of (block_of n)) (unwrap_or (node_texts o) f))
    → NodeReads P (node_tree n) → NodeReads Q (node_tree (end_with o n))
node_changed P Q k n None w x r = subst (NodeReads Q) (sym (node_tree_out n)) (own_format P Q (head_tree (out-KdlNode n)) (children_of (block_of n)) x (subst (NodeReads P) (node_tree_out n) r))
node_changed P Q k n (Some g) w x r =
    let h = head_tree (out-KdlNode n) in
    let c = children_of (block_of n) in
    let old : NodeReads P (node h c) = subst (NodeReads P) (node_tree_out n) r in
    let (f, e) = has_format P h c old in
    let same : format_or_printed h ≡ f = ap (λ (z : Option NodeFormat). unwrap_or z (printed_format h.entries)) e in
    let t = node_format_tree g in
    let rest = w.2.rest ∙ ap (λ (z : NodeFormat). record z { before_terminator = t.before_terminator; terminator = t.terminator; trailing = t.trailing }) same in
    subst (NodeReads Q) (sym (node_tree_roll (record (out-KdlNode n) { format = Some g }))) (format_exchanged P Q h c f t e rest (x f e) old)

pub is_some_mapped : (o : Option KdlDocument) → is_some o ≡ is_some (option_map document_tree o)
is_some_mapped None = refl
is_some_mapped (Some d) = refl

pub node_ends : (rest : Rest) (k : ℕ) (n : KdlNode) (o : Option KdlNodeFormat) → IsEndedBy k (format_or_printed (head_tree (out-KdlNode n))) (node_texts o)
    → ((f : NodeFormat) → node_texts (out-KdlNode n).format ≡ Some f → EndsReadAs rest (block_if (is_some (out-KdlNode n).children)) f (unwrap_or (node_texts o) f)) → (rest ≡ Rest.End → o ≡ None) → EndsAs rest n (end_with o n)
node_ends rest k n o w x last = go rest x last
  where
    at : (rest : Rest) (f : NodeFormat) → EndsReadAs rest (block_if (is_some (out-KdlNode n).children)) f (unwrap_or (node_texts o) f) → EndsReadAs rest (children_of (block_of n)) f (unwrap_or (node_texts o) f)
    at rest f y =
        kept_end rest (block_of n) (children_of (block_of n)) f (unwrap_or (node_texts o) f) refl
        (subst (λ (z : Bool). EndsReadAs rest (block_if z) f (unwrap_or (node_texts o) f)) (is_some_mapped (out-KdlNode n).children) y)

    go : (rest : Rest) → ((f : NodeFormat) → node_texts (out-KdlNode n).format ≡ Some f → EndsReadAs rest (block_if (is_some (out-KdlNode n).children)) f (unwrap_or (node_texts o) f)) → (rest ≡ Rest.End → o ≡ None) → EndsAs rest n (end_with o n)
    go Rest.End x last = ap (λ (z : Option KdlNodeFormat). end_with z n) (last refl)
    go Rest.Brace x last = λ P d r. node_changed P (BlockEnd (Some d)) k n o w (λ f e. at Rest.Brace f (x f e) P d) r
    go Rest.Text x last = λ P r. node_changed P Anything k n o w (λ f e. at Rest.Text f (x f e) P) r

-- what the format of a node lacks
pub open_read : (rest : Rest) (k : Children) (f : NodeFormat) (b e : ℕ) → e ≡ formless_count rest → PlaceSays k f.before_terminator b → terminator_text f ≡ [] → EndsReadAs rest k f (with_newlines f b e)
open_read Rest.End k f b e h says z = tt
open_read Rest.Brace k f b e h says z = λ P d end. open_end P (BlockEnd (Some d)) k f b e z says (subst (λ (n : ℕ). Terminates (BlockEnd (Some d)) (newlines n)) (sym h) (brace_ends d)) end
open_read Rest.Text k f b e h says z = λ P end. open_end P Anything k f b e z says (subst (λ (n : ℕ). Terminates Anything (newlines n)) (sym h) lf_ends) end

any_end : (P : Rests) (k : Children) (f : NodeFormat) → EndReads Anything k f → EndReads P k f
any_end P k f x = record { place = λ r p t. x.place r tt t; terminator = λ r s xs p z d. x.terminator r s xs tt z d }

pub terminator_read : (rest : Rest) (k : Children) (f : NodeFormat) (e : ℕ) → (terminator_text f ≡ [] → ⊥) → EndSays (terminator_text f) e → EndsReadAs rest k f (with_newlines f 0 e)
terminator_read rest k f e some says = to rest
  where
    go : (P : Rests) (z : Text) → terminator_text f ≡ z → EndReads P k f → EndReads Anything k (with_newlines f 0 e)
    go P [] q end = absurd (some q)
    go P (c ∷ s) q end = closed_ends P k f e c s q says end

    to : (rest : Rest) → EndsReadAs rest k f (with_newlines f 0 e)
    to Rest.End = tt
    to Rest.Brace = λ P d end. any_end (BlockEnd (Some d)) k (with_newlines f 0 e) (go P (terminator_text f) refl end)
    to Rest.Text = λ P end. go P (terminator_text f) refl end

pub says_as : (a b t u : Text) (n : ℕ) → a ≡ t → b ≡ u → EndSays (a ++ b) n → EndSays (t ++ u) n
says_as a b t u n e f x = subst (λ (z : Text). EndSays (t ++ z) n) f (subst (λ (z : Text). EndSays (z ++ b) n) e x)

pub both_empty : (t u : Text) → t ++ u ≡ [] → (t ≡ []) × (u ≡ [])
both_empty [] u e = (refl, e)
both_empty (c ∷ t) u e = absurd (cc)

pub some_text : (t u : Text) → ((t ≡ []) → ⊥) → t ++ u ≡ [] → ⊥
some_text t u f e = f (both_empty t u e).0

-- where a call succeeds
pub format_ok : {E : Type 0} (r : Result (Option KdlNodeFormat) E) (fmt : KdlNodeFormat) (p : Option KdlNodeFormat) (rest : Rest) (k : Children) → p ≡ Some fmt
    → IfOk r (λ o. EndsReadAs rest k (node_format_tree fmt) (unwrap_or (node_texts o) (node_format_tree fmt))) → IfOk r (λ o. (f : NodeFormat) → node_texts p ≡ Some f → EndsReadAs rest k f (unwrap_or (node_texts o) f))
format_ok (Ok o) fmt p rest k i x = λ f e. subst (λ (f : NodeFormat). EndsReadAs rest k f (unwrap_or (node_texts o) f)) (same_some (node_format_tree fmt) f (node_texts p) (ap node_texts i) e) x
format_ok (Err e) fmt p rest k i x = tt
