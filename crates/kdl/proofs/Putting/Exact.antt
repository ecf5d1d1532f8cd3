-- Nodes put among others with the newlines that are lacking, and no more.
use Rattle.kdl.proofs.Common.{◌≡◌, ℕ, zero, suc, ◌+◌, ◌<◌, ◌≤◌, Bool, List, [], ◌∷◌, ◌++◌, length, map, set, take, drop, ap, ◌∙◌, sym, refl, subst, arith, Option, Some, None, option_map, unwrap_or, is_some, slice_get, add-one, Result, Ok, Err, IfOk, Vec, Global, append-nil, drop_all, length-map, map-set, slice_get-map, insert, Text, without_bom, BeforeChildren, AddsNothing, Anything, EndReads, NodeReads, reads, terminator_text, leading_text, print_nodes, trailing_text, Children, no_children, children_of, Document, DocumentFormat, Head, Node, node, NodeFormat, listed_nodes, node_format_tree, node_texts, KdlNodeFormat, with_children, with_nodes, new_document, nodes_of, IsPutExactly, lengthened, node_format_of, BlockBegins, EndsAs, EndsExactly, EndsReadAs, FewestBefore, FormatFewest, GapFewest, GapSays, IsEndedBy, IsNodeEnded, IsRestAt, Lacks, LeadsExactly, PlaceFewest, PutAfter, PutFirst, block_format, block_if, end_with, formless_count, led_with, with_newlines, EndsWith, IsPut, LeadsWith, WithNewlines, format_or_printed, newlines, printed_format, text_from, text_up_to, texts_around, trees, NodeEnds, document_prints, document_tree, head_tree, node_prints, node_tree, nodes_tree, KdlDocument, out-KdlDocument, out-KdlNode, Rest, KdlNode, true, false}
use Rattle.std.proofs.lemmas.List.{take_all}
use Rattle.kdl.specs.Exact.{BlockBegunExactly, ChildPutExactly, ChildPutExactlyIn, EndsAt, FewerFail, HasOpenEnd, IsBeforeNewline, IsPutInBlock, LacksAt, LacksBeforeBrace, LacksBeforeText, LacksInBlock, LacksInText, NodesMayFollow, with_more}
use Rattle.kdl.specs.Internal.Ends.{BeginsFewest, IsEndedExactly, LacksBefore, PutExactly}
use Rattle.kdl.specs.Nodes.{BlockBegun, ChildPut, ChildPutIn}
use Rattle.kdl.proofs.Putting.Fewest.{open_fewest}
use Rattle.kdl.proofs.Putting.NodeEnds.{ends_with}
use Rattle.kdl.proofs.Putting.Puts.{insert_trees, put_printed_as, span_kept, texts_kept}
use Rattle.kdl.proofs.Printing.PrintedParts.{document_printed}
use Rattle.kdl.proofs.Trees.{node_tree_out, node_tree_roll}
use Rattle.kdl.proofs.Putting.PutReads.{block_of, is_some_mapped, node_ends}

-- what a format lacks
pub something_lacking : (rest : Rest) (c : Children) (f g : NodeFormat) (b e : ℕ) → Lacks f b e → 0 < b + e → g ≡ with_newlines f b e → FewestBefore rest c f (b + e) → IsEndedExactly rest c f (Some g)
something_lacking rest c f g b e l h k x = (b + e, (h, l.few, subst (EndsWith (b + e) f) (sym k) (ends_with f b e l)), x)

-- a node that reads with its format
end_read : (c : Children) (h : Head) (f : NodeFormat) → h.format ≡ Some f → NodeReads Anything (node h c) → EndReads Anything c f
end_read c h f k (reads {f = g} e head kids end) = let same : g ≡ f = some_same (sym e ∙ k) in subst (EndReads Anything c) same end
  where
    some_same : {x y : NodeFormat} → ◌≡◌ {A = Option NodeFormat} (Some x) (Some y) → x ≡ y
    some_same e = cc

same_length : (f : NodeFormat) → lengthened 0 0 f ≡ f
same_length f = rw (append-nil f.before_terminator, append-nil f.trailing) refl

same_more : (c : Children) (h : Head) → NodeReads Anything (node h c) → NodeReads Anything (with_more 0 0 (node h c))
same_more c h (reads {f = f} e head kids end) =
    let own : format_or_printed h ≡ f = ap (λ (o : Option NodeFormat). unwrap_or o (printed_format h.entries)) e in
    let same : h ≡ record h { format = Some (lengthened 0 0 (format_or_printed h)) } = ap (λ (o : Option NodeFormat). record h { format = o }) (e ∙ ap Some (sym own ∙ sym (same_length (format_or_printed h)))) in
    subst (λ (z : Head). NodeReads Anything (node z c)) same (reads e head kids end)

as_block : (o : Option Document) (f : NodeFormat) → EndReads Anything (children_of o) f → EndReads Anything (block_if (is_some o)) f
as_block None f x = x
as_block (Some d) f x = record { place = λ r p t. x.place r p t; terminator = x.terminator }

-- what a node lacks before any text
module _ (n : KdlNode) where
  abbrev own_block : Children
  own_block = block_if (is_some (out-KdlNode n).children)

  fewer_fail : (m : ℕ) → FormatFewest own_block (format_or_printed (head_tree (out-KdlNode n))) m → FewerFail m n
  fewer_fail m less x e h r =
      let head = head_tree (out-KdlNode n) in
      let f = lengthened x e (format_or_printed head) in
      let kids = children_of (block_of n) in
      let read : NodeReads Anything (with_more x e (node head kids)) = subst (λ (z : Node). NodeReads Anything (with_more x e z)) (node_tree_out n) r in
      let end : EndReads Anything kids f = end_read kids (record head { format = Some f }) f refl read in
      less x e h (subst (λ (z : Bool). EndReads Anything (block_if z) f) (sym (is_some_mapped (out-KdlNode n).children)) (as_block (block_of n) f end))

  none_lacking : (m : ℕ) → FewerFail m n → NodeEnds n → m ≡ 0
  none_lacking zero less r = refl
  none_lacking (suc m) less r =
      let kids = children_of (block_of n) in
      let read : NodeReads Anything (node (head_tree (out-KdlNode n)) kids) = subst (NodeReads Anything) (node_tree_out n) r in
      absurd (less 0 0 (omega arith) (subst (λ (z : Node). NodeReads Anything (with_more 0 0 z)) (sym (node_tree_out n)) (same_more kids (head_tree (out-KdlNode n)) read)))

  module _ (x : KdlNode) (m : ℕ) (w : WithNewlines m (node_tree n) (node_tree x)) where
    before_text : FormatFewest own_block (format_or_printed (head_tree (out-KdlNode n))) m → EndsAs Rest.Text n x → (node_format_of n ≡ None → m ≡ 1) → LacksBeforeText m n
    before_text less ends one = record { enough = λ P r. (node_tree x, w, ends P r); fewer = fewer_fail m less; none = none_lacking m (fewer_fail m less); formless = one }

    before_brace : FormatFewest own_block (format_or_printed (head_tree (out-KdlNode n))) m → (HasOpenEnd n → FormatFewest own_block (format_or_printed (head_tree (out-KdlNode n))) (m + 1)) → EndsAs Rest.Brace n x
        → (node_format_of n ≡ None → m ≡ 0) → LacksBeforeBrace m n
    before_brace less more ends bare = record {
      enough = λ P f r. (node_tree x, w, ends P f r);
      fewer = fewer_fail m less;
      unended = λ h. fewer_fail (m + 1) (more h);
      none = none_lacking m (fewer_fail m less);
      formless = bare;
    }

  -- with a format and without one
  formless_lacks : (rest : Rest) (x : KdlNode) → WithNewlines (formless_count rest) (node_tree n) (node_tree x) → EndsAs rest n x → format_or_printed (head_tree (out-KdlNode n)) ≡ printed_format (head_tree (out-KdlNode n)).entries
      → node_texts (node_format_of n) ≡ None → LacksBefore rest (formless_count rest) n
  formless_lacks Rest.End x w ends h e = refl
  formless_lacks Rest.Text x w ends h e =
      before_text x 1 w (open_fewest own_block (format_or_printed (head_tree (out-KdlNode n))) 0 (ap terminator_text h) (omega arith) (λ m l g. absurd (omega arith))) ends (λ x. refl)
  formless_lacks Rest.Brace x w ends h e = before_brace x 0 w (λ x y l r. absurd (omega arith)) (λ x. absurd (cc)) ends (λ x. refl)

  format_lacks : (rest : Rest) (x : KdlNode) (m : ℕ) (f : NodeFormat) → WithNewlines m (node_tree n) (node_tree x) → EndsAs rest n x → format_or_printed (head_tree (out-KdlNode n)) ≡ f
      → node_texts (node_format_of n) ≡ Some f → (rest ≡ Rest.End → m ≡ 0) → FewestBefore rest own_block f m → LacksBefore rest m n
  format_lacks Rest.End x m f w ends h e z less = z refl
  format_lacks Rest.Text x m f w ends h e z less = before_text x m w (subst (λ (y : NodeFormat). FormatFewest own_block y m) (sym h) less) ends (λ y. absurd (cc))
  format_lacks Rest.Brace x m f w ends h e z less =
      before_brace x m w (subst (λ (y : NodeFormat). FormatFewest own_block y m) (sym h) less.0)
      (λ (g, s, t). let same : g ≡ f = cc in subst (λ (y : NodeFormat). FormatFewest own_block y (m + 1)) (sym h) (less.1 (subst (λ (y : NodeFormat). terminator_text y ≡ []) same t))) ends (λ y. absurd (cc))

-- a node with the newlines more that it lacks
formatted : (n : KdlNode) (f : KdlNodeFormat) → node_tree (end_with (Some f) n) ≡ node (record (head_tree (out-KdlNode n)) { format = Some (node_format_tree f) }) (children_of (block_of n))
formatted n f = node_tree_roll (record (out-KdlNode n) { format = Some f })

node_longer : (n : KdlNode) (o : Option KdlNodeFormat) (k : ℕ) → IsEndedBy k (format_or_printed (head_tree (out-KdlNode n))) (node_texts o) → (k ≤ 2) × WithNewlines k (node_tree n) (node_tree (end_with o n))
node_longer n None k h = (omega arith, subst (λ (m : ℕ). WithNewlines m (node_tree n) (node_tree n)) (sym h) refl)
node_longer n (Some f) zero (l, m, h) = absurd (omega arith)
node_longer n (Some f) (suc k) (l, m, h) = (m, subst (λ (x : Node). WithNewlines (suc k) x (node_tree (end_with (Some f) n))) (sym (node_tree_out n)) (node_format_tree f, formatted n f, h))

no_newline : (rest : Rest) (k : ℕ) (f : NodeFormat) (o : Option KdlNodeFormat) → (rest ≡ Rest.End → o ≡ None) → IsEndedBy k f (node_texts o) → rest ≡ Rest.End → k ≡ 0
no_newline rest k f o last h e = subst (λ (p : Option KdlNodeFormat). IsEndedBy k f (node_texts p)) (last e) h

-- so the node has exactly those, and reads back before what follows
ends_exactly : (rest : Rest) (n : KdlNode) (o : Option KdlNodeFormat) (own : Option NodeFormat) → node_texts (node_format_of n) ≡ own
    → IsNodeEnded rest (block_if (is_some (out-KdlNode n).children)) own (printed_format (head_tree (out-KdlNode n)).entries) (node_texts o)
    → ((f : NodeFormat) → node_texts (node_format_of n) ≡ Some f → EndsReadAs rest (block_if (is_some (out-KdlNode n).children)) f (unwrap_or (node_texts o) f)) → (rest ≡ Rest.End → o ≡ None)
    → EndsAs rest n (end_with o n) × EndsExactly rest n o
ends_exactly rest n o None e h back last =
    let same : format_or_printed (head_tree (out-KdlNode n)) ≡ printed_format (head_tree (out-KdlNode n)).entries = ap (λ (z : Option NodeFormat). unwrap_or z (printed_format (head_tree (out-KdlNode n)).entries)) e in
    let by = subst (λ (f : NodeFormat). IsEndedBy (formless_count rest) f (node_texts o)) (sym same) h in
    let w = node_longer n o (formless_count rest) by in
    let ends = node_ends rest (formless_count rest) n o by back last in
    (ends, (formless_count rest, w.0, w.1, formless_lacks n rest (end_with o n) w.1 ends same e))
ends_exactly rest n o (Some g) e (m, h, x) back last =
    let same : format_or_printed (head_tree (out-KdlNode n)) ≡ g = ap (λ (z : Option NodeFormat). unwrap_or z (printed_format (head_tree (out-KdlNode n)).entries)) e in
    let by = subst (λ (f : NodeFormat). IsEndedBy m f (node_texts o)) (sym same) h in
    let w = node_longer n o m by in
    let ends = node_ends rest m n o by back last in
    (ends, (m, w.0, w.1, format_lacks n rest (end_with o n) m g w.1 ends same e (no_newline rest m g o last h) x))

pub ends_exactly_ok : {E : Type 0} (r : Result (Option KdlNodeFormat) E) (rest : Rest) (n : KdlNode)
    → IfOk r (λ o. IsNodeEnded rest (block_if (is_some (out-KdlNode n).children)) (node_texts (node_format_of n)) (printed_format (head_tree (out-KdlNode n)).entries) (node_texts o))
    → IfOk r (λ o. (f : NodeFormat) → node_texts (node_format_of n) ≡ Some f → EndsReadAs rest (block_if (is_some (out-KdlNode n).children)) f (unwrap_or (node_texts o) f)) → (rest ≡ Rest.End → IfOk r (λ o. o ≡ None))
    → IfOk r (λ o. EndsAs rest n (end_with o n)) × IfOk r (λ o. EndsExactly rest n o)
ends_exactly_ok (Ok o) rest n h back last = ends_exactly rest n o (node_texts (node_format_of n)) refl h back last
ends_exactly_ok (Err e) rest n h back last = (tt, tt)

-- the leading text with the newlines more that it lacks
pub leads_exactly : (o : Option DocumentFormat) (f : DocumentFormat) (t : Text) (k : ℕ) → o ≡ Some f → 0 < k → k ≤ 2 → t ≡ f.leading ++ newlines k → GapSays (without_bom f.leading) k → GapFewest (without_bom f.leading) k
    → LeadsExactly o (Some t)
leads_exactly o f t zero h l m e says x = absurd (omega arith)
leads_exactly o f t (suc k) h l m e says x =
    subst (λ (p : Option DocumentFormat). LeadsExactly p (Some t)) (sym h) (suc k, m, (f, refl, ap (λ (z : Text). Some (record f { leading = z })) e), says, x)

-- a node put before all others, after a leading text that took the place of the old one
pub first_put : (l : Option Text) (n : KdlNode) (d p e : KdlDocument) → LeadsExactly (texts_around d) l → nodes_of p ≡ insert (nodes_of d) 0 n → p ≡ with_nodes d (out-KdlDocument p).nodes
    → (out-KdlDocument e).nodes ≡ (out-KdlDocument p).nodes → texts_around e ≡ led_with l (texts_around p) → (out-KdlDocument e).span ≡ (out-KdlDocument p).span → PutFirst n d e
first_put l n d p e x k r a b c = record {
  leading = l;
  exact = x;
  texts = b ∙ ap (led_with l) (texts_kept d p r);
  nodes = ap (λ (v : Vec KdlNode Global). v.items) a ∙ k;
  span = c ∙ span_kept d p r;
}

-- what the node itself lacks there
own_in_text : (i j : ℕ) (n : KdlNode) (d : KdlDocument) (rest : Rest) → IsRestAt true i d rest → LacksBefore rest j n → LacksInText i j n d
own_in_text i j n d Rest.End (e, last) x = record { at_end = λ h. x; before_text = λ f. absurd (f last) }
own_in_text i j n d Rest.Brace (e, f, k, last) x = absurd (cc)
own_in_text i j n d Rest.Text w x = record { at_end = λ h. let e = (w h).0 in absurd (cc); before_text = λ f. x }

own_in_block : (i j : ℕ) (n : KdlNode) (d : KdlDocument) (rest : Rest) → IsRestAt false i d rest → LacksBefore rest j n → LacksInBlock i j n d
own_in_block i j n d Rest.End (e, w) x = absurd (cc)
own_in_block i j n d Rest.Brace (e, f, k, last) x = record { at_brace = λ h g s. x; before_text = λ h. let z = h last in absurd (cc) }
own_in_block i j n d Rest.Text w x = record { at_brace = λ h g s. let z = (w h).1 in absurd (cc); before_text = λ h. x }

same_some : (x y : KdlNode) (o : Option KdlNode) → o ≡ Some x → o ≡ Some y → x ≡ y
same_some x y o h k = let e : Some x ≡ Some y = sym h ∙ k in cc

-- a node put in at the index j, after another one
after_is_put : (i : ℕ) (n : KdlNode) (own : Option KdlNodeFormat) (d e : KdlDocument) (rest : Rest) → EndsExactly rest n own → (p : PutAfter i (end_with own n) d e)
    → IsPut (suc i) (node_tree n) d e
after_is_put i n own d e rest a p = let b = p.exact in record {
  k = b.0;
  j = a.0;
  few = (b.1, a.1);
  ended = set (trees d) i (node_tree (end_with p.format p.last));
  put = node_tree (end_with own n);
  before = (
    texts_kept d e p.rest,
    record { old = node_tree p.last; new = node_tree (end_with p.format p.last); is = slice_get-map node_tree (nodes_of d) i ∙ ap (option_map node_tree) p.there; ends = b.2; nodes = refl },
  );
  ends = a.2;
  nodes = ap (map node_tree) (p.nodes ∙ ap (λ (z : ℕ). insert (set (nodes_of d) i (end_with p.format p.last)) z (end_with own n)) (add-one i))
      ∙ insert_trees (set (nodes_of d) i (end_with p.format p.last)) (suc i) (end_with own n)
      ∙ ap (λ (z : List Node). insert z (suc i) (node_tree (end_with own n))) (map-set node_tree (nodes_of d) i (end_with p.format p.last));
  span = span_kept d e p.rest;
}

after_lacks : (i : ℕ) (n : KdlNode) (d e : KdlDocument) (p : PutAfter i n d e) → LacksAt (suc i) p.exact.0 d
after_lacks i n d e p = λ m h. subst (LacksBeforeText p.exact.0) (same_some p.last m (slice_get (nodes_of d) i) p.there h) p.exact.3

after_exactly : (b : Bool) (i : ℕ) (n : KdlNode) (own : Option KdlNodeFormat) (d e : KdlDocument) (rest : Rest) → IsRestAt b (suc i) d rest → EndsExactly rest n own
    → PutAfter i (end_with own n) d e → PutExactly b (suc i) n d e
unfolding after_is_put
after_exactly true i n own d e rest at a p =
    let q = after_is_put i n own d e rest a p in
    record { put = q; prints = put_printed_as (suc i) n d e q; before = after_lacks i (end_with own n) d e p; own = own_in_text (suc i) a.0 n d rest at a.3 }
after_exactly false i n own d e rest at a p =
    record { put = after_is_put i n own d e rest a p; before = after_lacks i (end_with own n) d e p; own = own_in_block (suc i) a.0 n d rest at a.3 }

pub put_after_exactly : (b : Bool) (i j : ℕ) (n : KdlNode) (own : Option KdlNodeFormat) (d e : KdlDocument) (rest : Rest) → suc i ≡ j → IsRestAt b j d rest → EndsExactly rest n own
    → PutAfter i (end_with own n) d e → PutExactly b j n d e
put_after_exactly b i j n own d e rest h at a p =
    subst (λ (k : ℕ). PutExactly b k n d e) h (after_exactly b i n own d e rest (subst (λ (k : ℕ). IsRestAt b k d rest) (sym h) at) a p)

-- and before all others
first_is_put : (n : KdlNode) (own : Option KdlNodeFormat) (d e : KdlDocument) (rest : Rest) → EndsExactly rest n own → PutFirst (end_with own n) d e → IsPut 0 (node_tree n) d e
first_is_put n own d e rest a p = let b = p.exact in record {
  k = b.0;
  j = a.0;
  few = (b.1, a.1);
  ended = trees d;
  put = node_tree (end_with own n);
  before = (refl, subst (LeadsWith b.0 (texts_around d)) (sym p.texts) b.2);
  ends = a.2;
  nodes = ap (map node_tree) p.nodes ∙ insert_trees (nodes_of d) 0 (end_with own n);
  span = p.span;
}

first_exactly : (b : Bool) (n : KdlNode) (own : Option KdlNodeFormat) (d e : KdlDocument) (rest : Rest) → IsRestAt b 0 d rest → EndsExactly rest n own → PutFirst (end_with own n) d e → PutExactly b 0 n d e
unfolding first_is_put
first_exactly true n own d e rest at a p =
    let q = first_is_put n own d e rest a p in
    record { put = q; prints = put_printed_as 0 n d e q; before = record { enough = p.exact.3; fewer = p.exact.4 }; own = own_in_text 0 a.0 n d rest at a.3 }
first_exactly false n own d e rest at a p =
    record { put = first_is_put n own d e rest a p; before = record { enough = p.exact.3; fewer = p.exact.4 }; own = own_in_block 0 a.0 n d rest at a.3 }

pub put_first_exactly : (b : Bool) (j : ℕ) (n : KdlNode) (own : Option KdlNodeFormat) (d e : KdlDocument) (rest : Rest) → 0 ≡ j → IsRestAt b j d rest → EndsExactly rest n own
    → PutFirst (end_with own n) d e → PutExactly b j n d e
put_first_exactly b j n own d e rest h at a p =
    subst (λ (k : ℕ). PutExactly b k n d e) h (first_exactly b n own d e rest (subst (λ (k : ℕ). IsRestAt b k d rest) (sym h) at) a p)

-- the node is put in, in a text or in a block
pub is_put : (b : Bool) (i : ℕ) (n : KdlNode) (d e : KdlDocument) → PutExactly b i n d e → IsPut i (node_tree n) d e
is_put true i n d e p = p.put
is_put false i n d e p = p.put

-- what is before a new block
pub begins_fewest : (o : Option NodeFormat) (f : NodeFormat) (t : Text) (k : ℕ) → o ≡ Some f → 0 < k → k ≤ 1 → t ≡ f.before_terminator ++ newlines k → PlaceFewest no_children f.before_terminator k → BeginsFewest o (Some t)
begins_fewest o f t k h l m e less = (
  f,
  h,
  let q : k ≡ 1 = omega arith in e ∙ ap (λ (n : ℕ). f.before_terminator ++ newlines n) q,
  λ before. less 0 l (λ r. subst (λ (y : Text). BeforeChildren (y ++ (10 ∷ r)) (10 ∷ r)) (sym (append-nil f.before_terminator)) (before r)),
)

begun_exactly : (f : Option NodeFormat) (o : Option Text) (g : Option NodeFormat) → BeginsFewest f o → g ≡ option_map (block_format o) f → BlockBegunExactly f g
begun_exactly None o g w e = e
begun_exactly (Some f) None g w e =
    (0, omega arith, e ∙ ap (λ (z : Text). Some (record f { before_children = z; before_terminator = [] })) (sym (append-nil f.before_terminator)), λ m l x. omega arith)
begun_exactly (Some f) (Some t) g (x, a, b, w) e =
    let c : x ≡ f = cc in (
      1,
      omega arith,
      e ∙ ap (λ (z : Text). Some (record f { before_children = z; before_terminator = [] })) (b ∙ ap (λ (y : NodeFormat). y.before_terminator ++ newlines 1) c),
      λ m l h. let z : m ≡ 0 = omega arith in w (subst (λ (y : NodeFormat). IsBeforeNewline y.before_terminator) (sym c) (subst IsBeforeNewline (ap (λ (y : ℕ). f.before_terminator ++ newlines y) z ∙ append-nil f.before_terminator) h)),
    )

pub new_block_exactly : (i : ℕ) (n m m' x : KdlNode) (d e : KdlDocument) (o : Option Text) → (out-KdlNode m).children ≡ None → document_tree d ≡ new_document → IsPutInBlock 0 n d e
    → BeginsFewest (node_texts (out-KdlNode m).format) o → BlockBegins o m x → m' ≡ with_children x (Some e) → ChildPutExactly i n m m'
new_block_exactly i n m m' x d e o h k p w (g, s, t) r =
    let P : Option KdlDocument → Type 0 = λ z. ChildPutExactlyIn z i n m m' in
    subst P (sym h) (d, e, g, k, p, begun_exactly (node_texts (out-KdlNode m).format) o (node_texts g) w t, r ∙ ap (λ (z : KdlNode). with_children z (Some e)) s)

-- a child that is put in exactly is put in
begun : (f g : Option NodeFormat) → BlockBegunExactly f g → BlockBegun f g
begun None g e = e
begun (Some f) g (k, l, e, w) = (k, l, e)

child_put_in : (o : Option KdlDocument) (i : ℕ) (n m m' : KdlNode) → ChildPutExactlyIn o i n m m' → ChildPutIn o i n m m'
child_put_in None i n m m' (d, e, g, k, p, b, r) = (d, e, g, k, p.put, begun (node_texts (node_format_of m)) (node_texts g) b, r)
child_put_in (Some d) i n m m' (e, p, r) = (e, p.put, r)

pub child_put : (i : ℕ) (n m m' : KdlNode) → ChildPutExactly i n m m' → ChildPut i n m m'
child_put i n m m' p = child_put_in (out-KdlNode m).children i n m m' p

-- a node put after the others, where nothing is lacking
node_there : (ns : List KdlNode) (i : ℕ) → i < length ns → (n : KdlNode) × (slice_get ns i ≡ Some n)
node_there [] i h = absurd (omega arith)
node_there (n ∷ ns) zero h = (n, refl)
node_there (n ∷ ns) (suc i) h = node_there ns i (omega arith)

none_at : (i k : ℕ) (d : KdlDocument) → i ≤ length (nodes_of d) → EndsAt i d → LacksAt i k d → k ≡ 0
none_at zero zero d h e less = refl
none_at zero (suc k) d h e less = absurd (less.fewer 0 (omega arith) (subst AddsNothing (sym (append-nil (without_bom (leading_text (texts_around d))))) e))
none_at (suc i) k d h e less = let n = node_there (nodes_of d) i (omega arith) in (less n.0 n.1).none (e n.0 n.1)

seam : (l t n : Text) → (((((l ++ t) ++ []) ++ n) ++ []) ++ []) ≡ ((l ++ t) ++ []) ++ n
seam l t n = simp append-nil

pub appended : (n : KdlNode) (d e : KdlDocument) → IsPutExactly (length (nodes_of d)) n d e → NodesMayFollow d → document_prints e ≡ document_prints d ++ node_prints n
appended n d e p f =
    let i = length (nodes_of d) in
    let put = p.put in
    let own = p.own in
    let k : put.k ≡ 0 = none_at i put.k d (omega arith) f.ends p.before in
    let j : put.j ≡ 0 = own.at_end (omega arith, f.trailing) in
    let all : take i (trees d) ≡ trees d = take_all i (trees d) (omega (arith, length-map (nodes_of d) node_tree)) in
    let rest : drop i (trees d) ≡ [] = drop_all i (trees d) (omega (arith, length-map (nodes_of d) node_tree)) in
    p.prints
    ∙ ap (λ (m : ℕ). text_up_to i d 0 ++ newlines m ++ node_prints n ++ newlines put.j ++ text_from i d 0) k
    ∙ ap (λ (m : ℕ). text_up_to i d 0 ++ [] ++ node_prints n ++ newlines m ++ text_from i d 0) j
    ∙ ap (λ (ns : List Node). (leading_text (texts_around d) ++ print_nodes (listed_nodes ns) 0) ++ [] ++ node_prints n ++ [] ++ text_from i d 0) all
    ∙ ap (λ (ns : List Node). (leading_text (texts_around d) ++ print_nodes (nodes_tree (nodes_of d)) 0) ++ [] ++ node_prints n ++ [] ++ (print_nodes (listed_nodes ns) 0 ++ trailing_text (texts_around d))) rest
    ∙ ap (λ (t : Text). (leading_text (texts_around d) ++ print_nodes (nodes_tree (nodes_of d)) 0) ++ [] ++ node_prints n ++ [] ++ t) f.trailing
    ∙ seam (leading_text (texts_around d)) (print_nodes (nodes_tree (nodes_of d)) 0) (node_prints n)
    ∙ ap (λ (t : Text). ((leading_text (texts_around d) ++ print_nodes (nodes_tree (nodes_of d)) 0) ++ t) ++ node_prints n) (sym f.trailing)
    ∙ ap (λ (t : Text). t ++ node_prints n) (sym (document_printed d 0))
