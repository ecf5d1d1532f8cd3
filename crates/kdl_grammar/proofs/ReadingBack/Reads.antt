-- What a document that reads back prints is derived, with its data.
use Rattle.std.proofs.Common.{◌≡◌, ℕ, zero, suc, ◌+◌, ◌*◌, true, List, [], ◌∷◌, ◌++◌, map, replicate, Option, Some, None, refl, sym, ap, subst, ◌∙◌, append_assoc, append-nil, arith, inl, inr}
use Rattle.std.specs.List.{All}
use Rattle.kdl_text.specs.Chars.{Text, is_space, is_newline_char, Newline, space as a_space}
use Rattle.kdl_text.specs.Trivia.{LineSpace, NodeSpace, Ws, Break, ValueEnd}
use Rattle.kdl_entry.specs.Print.{print_formatted}
use Rattle.kdl_entry.specs.Tree.{Entry, EntryFormat, entry_data}
use Rattle.kdl_grammar.specs.Data as data'
use Rattle.kdl_grammar.specs.Grammar.{AfterName, Gap, no_gap, line_space, dropped_node, AreNodes, last_gap, node_then, IsBlock, braces, IsDocument, IsDocumentIn}
use Rattle.kdl_grammar.specs.Print.{leading_text, trailing_text, spaces, spaced, print_piece, print_pieces, head_text, print_head, before_block, end_text, after_brace, before_brace, format_of, print_tail, print_node, print_nodes, print_document, print_block}
use Rattle.kdl_grammar.specs.ReadsBack.{Rests, TextEnd, MayFollow, front_text, value_text, entry_trailing, EntryReads, name_text, terminator_text, NodesEnd, BeforeTerminator, NodeReads, reads, ChildrenRead, no_block, a_block, NodesRead, no_node, last_node, next_node, ContentReads, one_text, two_texts, with_nodes, BlockReads, block, DocumentReads}
use Rattle.kdl_grammar.specs.Tree.{NodeFormat, Head, Node, node, Children, no_children, children, Document, document, Nodes, first, node_data, children_data, document_data, nodes_data}
use Rattle.kdl_grammar.proofs.Laying.LaidIsDerived.{plain_of, braced_of, later_of}
use Rattle.kdl_grammar.proofs.Moving.Moves.{before_end, terminator_end}
use Rattle.kdl_entry.proofs.Moving.EntryMoves.{punctuation_end}

-- gaps in a row
pub join_gaps : {s t r : Text} → Gap true s t → Gap true t r → Gap true s r
join_gaps no_gap h = h
join_gaps (line_space l g) h = line_space l (join_gaps g h)
join_gaps (dropped_node m n e g) h = dropped_node m n e (join_gaps g h)

-- a gap before nodes
pub gap_nodes : {s t r : Text} {xs : data'.Nodes} → Gap true s t → AreNodes true t r xs → AreNodes true s r xs
gap_nodes g (last_gap h) = last_gap (join_gaps g h)
gap_nodes g (node_then h n e d) = node_then (join_gaps g h) n e d

space_gap : {t r : Text} → Gap true t r → Gap true (32 ∷ t) r
unfolding is_space
space_gap g = line_space (LineSpace.space (NodeSpace.ws (Ws.space (a_space refl)))) g

many_spaces : (n : ℕ) {t r : Text} → Gap true t r → Gap true (replicate n 32 ++ t) r
many_spaces zero g = g
many_spaces (suc n) g = space_gap (many_spaces n g)

pub spaces_gap : (n : ℕ) {t r : Text} → Gap true t r → Gap true (spaces n ++ t) r
spaces_gap n g = many_spaces (4 * n) g

-- LF begins a gap
pub newline_gap : {t r : Text} → Gap true t r → Gap true (10 ∷ t) r
unfolding is_newline_char
newline_gap g = line_space (LineSpace.«break» (Break.newline (Newline.one refl refl))) g

-- what an entry prints, in the parts of which it reads back
piece_text : (e : Entry) (o : Option EntryFormat) → entry_trailing o ≡ [] → (r : Text) → (spaced o ++ print_formatted e o) ++ r ≡ front_text e o ++ (value_text e o ++ r)
piece_text e None h r = simp append_assoc
piece_text e (Some f) h r = rw h (simp (append_assoc, append-nil))

-- entries before what follows a name
record EntriesBefore (es : List Entry) (k : data'.Children) (s t : Text) : Type 0 where
  is : AfterName true s t (map entry_data es) k
  end : ValueEnd true s

entries_are : (es : List Entry) → All EntryReads es → (r : Text) {t : Text} {k : data'.Children} → ValueEnd true r → AfterName true r t [] k → EntriesBefore es k (print_pieces es ++ r) t
entries_are [] c r e d = record { is = d; end = e }
entries_are (x ∷ es) c r {t = t} {k = k} e d =
    let rest = entries_are es (λ k y h. c (suc k) y (omega arith)) r e d in
    let own : EntryReads x = c zero x (omega arith) in
    let text : print_pieces (x ∷ es) ++ r ≡ front_text x x.format ++ (value_text x x.format ++ (print_pieces es ++ r)) = append_assoc (print_piece x) (print_pieces es) r ∙ piece_text x x.format own.trailing (print_pieces es ++ r) in
    subst (λ (s : Text). EntriesBefore (x ∷ es) k s t) (sym text) (record {
      is = own.front (own.value rest.end) rest.is;
      end = own.begins (value_text x x.format ++ (print_pieces es ++ r));
    })

-- a block and what comes before it, or nothing
abbrev pub block_text : Children → NodeFormat → ℕ → Text
block_text no_children f depth = []
block_text (children d) f depth = f.before_children ++ print_block d depth

abbrev tail_with : Option NodeFormat → List Entry → Children → ℕ → Text
tail_with o es no_children depth = end_text o
tail_with o es (children d) depth = before_block o es ++ (123 ∷ after_brace (format_of d)) ++ print_document d (depth + 1) ++ before_brace (format_of d) depth ++ (125 ∷ end_text o)

tail_same : (h : Head) (k : Children) (depth : ℕ) → print_tail h k depth ≡ tail_with h.format h.entries k depth
tail_same h no_children depth = refl
tail_same h (children d) depth = refl

tail_parts : (b x d y p z w : Text) → b ++ x ++ d ++ y ++ (125 ∷ (p ++ z ++ w)) ≡ (b ++ (x ++ d ++ y ++ (125 ∷ []))) ++ (p ++ (z ++ w))
tail_parts b x d y p z w = simp append_assoc

tail_text : (f : NodeFormat) (es : List Entry) (k : Children) (depth : ℕ) → tail_with (Some f) es k depth ≡ block_text k f depth ++ (f.before_terminator ++ terminator_text f)
tail_text f es no_children depth = simp append_assoc
tail_text f es (children d) depth = tail_parts f.before_children (123 ∷ after_brace (format_of d)) (print_document d (depth + 1)) (before_brace (format_of d) depth) f.before_terminator f.terminator f.trailing

node_parts : (q n p k b t r : Text) → ((q ++ n) ++ p ++ (k ++ (b ++ t))) ++ r ≡ q ++ (n ++ (p ++ (k ++ (b ++ (t ++ r)))))
node_parts q n p k b t r = simp append_assoc

pub node_text : (h : Head) (f : NodeFormat) (k : Children) (depth : ℕ) (r : Text) → h.format ≡ Some f
    → print_node (node h k) depth ++ r ≡ f.leading ++ (name_text h f ++ (print_pieces h.entries ++ (block_text k f depth ++ (f.before_terminator ++ (terminator_text f ++ r)))))
node_text h f k depth r e =
    let front : print_head h depth ≡ f.leading ++ name_text h f = ap (λ (o : Option NodeFormat). head_text h.ty h.name o depth) e ∙ simp append_assoc in
    let back : print_tail h k depth ≡ block_text k f depth ++ (f.before_terminator ++ terminator_text f) =
    tail_same h k depth ∙ ap (λ (o : Option NodeFormat). tail_with o h.entries k depth) e ∙ tail_text f h.entries k depth in
    ap (λ (x : Text). (x ++ print_pieces h.entries ++ print_tail h k depth) ++ r) front ∙ ap (λ (x : Text). ((f.leading ++ name_text h f) ++ print_pieces h.entries ++ x) ++ r) back
    ∙ node_parts f.leading (name_text h f) (print_pieces h.entries) (block_text k f depth) f.before_terminator (terminator_text f) r

block_parts : (l n t b r : Text) → ((l ++ n ++ t) ++ b ++ (125 ∷ [])) ++ r ≡ l ++ (n ++ (t ++ (b ++ (125 ∷ r))))
block_parts l n t b r = simp append_assoc

-- what follows a name
record NameBefore (k : data'.Children) (s t : Text) : Type 0 where
  is : AfterName true s t [] k
  end : ValueEnd true s

mutual
  -- a node, and the nodes that follow
  pub node_are : {P : Rests} {n : Node} → NodeReads P n → (r : Text) {s : Text} {xs : data'.Nodes} → MayFollow P r → NodesEnd s → AreNodes true r s xs → (depth : ℕ) → AreNodes true (print_node n depth ++ r) s (data'.first (node_data n) xs)
  node_are (reads {h = h} {f = f} {k = k} e head kids end) r {s = s} {xs = xs} p z d depth =
      let t = end.terminator r s xs p z d in
      let b = end.place r p t.1 in
      let tail = tail_is kids (f.before_terminator ++ (terminator_text f ++ r)) (terminator_text f ++ r) b (terminator_end t.1) depth in
      let entries = entries_are h.entries head.entries (block_text k f depth ++ (f.before_terminator ++ (terminator_text f ++ r))) tail.end tail.is in
      let rest = print_pieces h.entries ++ (block_text k f depth ++ (f.before_terminator ++ (terminator_text f ++ r))) in
      subst (λ (u : Text). AreNodes true u s (data'.first (node_data (node h k)) xs)) (sym (node_text h f k depth r e))
      (node_then (head.leading rest) (head.name {r = rest} entries.end entries.is) t.1 t.2)

  tail_is : {f : NodeFormat} {k : Children} → ChildrenRead f k → (s t : Text) → BeforeTerminator k s t → ValueEnd true t → (depth : ℕ) → NameBefore (children_data k) (block_text k f depth ++ s) t
  tail_is no_block s t b e depth = record { is = plain_of b; end = before_end b e }
  tail_is (a_block {f = f} {d = d} c x) s t b e depth =
      let q = (after_brace (format_of d) ++ print_document d (depth + 1) ++ before_brace (format_of d) depth ++ (125 ∷ [])) ++ s in
      subst (λ (u : Text). NameBefore (data'.children (document_data d)) u t) (sym (append_assoc f.before_children (print_block d depth) s))
      (record { is = braced_of (c q) (block_is x depth s) (later_of b); end = before_end (c q) (punctuation_end 123 refl) })

  block_is : {d : Document} → BlockReads d → (depth : ℕ) (r : Text) → IsBlock true (print_block d depth ++ r) r (document_data d)
  block_is (block {o = None} {ns = ns} c) depth r =
      let inside = content_is c (spaces depth ++ (125 ∷ r)) (depth, r, refl) (inr (r, refl)) (spaces_gap depth no_gap) (depth + 1) in
      subst (λ (u : Text). IsBlock true (123 ∷ 10 ∷ u) r (nodes_data ns)) (sym (block_parts [] (print_nodes ns (depth + 1)) [] (spaces depth) r)) (braces (gap_nodes (newline_gap no_gap) inside))
  block_is (block {o = Some f} {ns = ns} c) depth r =
      let inside = content_is c (125 ∷ r) (r, refl) (inr (r, refl)) no_gap (depth + 1) in
      subst (λ (u : Text). IsBlock true (123 ∷ u) r (nodes_data ns)) (sym (block_parts f.leading (print_nodes ns (depth + 1)) f.trailing [] r)) (braces inside)

  nodes_are : {P : Rests} {ns : Nodes} → NodesRead P ns → (r : Text) {s : Text} → MayFollow P r → NodesEnd s → AreNodes true r s data'.none → (depth : ℕ) → AreNodes true (print_nodes ns depth ++ r) s (nodes_data ns)
  nodes_are no_node r p z d depth = d
  nodes_are (last_node {n = n} x) r {s = s} p z d depth = subst (λ (u : Text). AreNodes true (u ++ r) s (data'.first (node_data n) data'.none)) (sym (append-nil (print_node n depth))) (node_are x r p z d depth)
  nodes_are (next_node {n = n} {m = m} {ns = ns} x xs) r {s = s} p z d depth =
      subst (λ (u : Text). AreNodes true u s (nodes_data (first n (first m ns)))) (sym (append_assoc (print_node n depth) (print_nodes (first m ns) depth) r))
      (node_are x (print_nodes (first m ns) depth ++ r) tt z (nodes_are xs r p z d depth) depth)

  content_is : {P : Rests} {leading trailing : Text} {ns : Nodes} → ContentReads P leading trailing ns → (r : Text) {s : Text} → MayFollow P r → NodesEnd s → Gap true r s → (depth : ℕ)
      → AreNodes true (leading ++ (print_nodes ns depth ++ (trailing ++ r))) s (nodes_data ns)
  content_is (one_text g) r p z e depth = last_gap (join_gaps (g r p) e)
  content_is (two_texts a g) r p z e depth = a _ _ _ z (last_gap (join_gaps (g r p) e))
  content_is (with_nodes {trailing = []} a ns g) r p z e depth = a _ _ _ z (nodes_are ns r p z (last_gap e) depth)
  content_is (with_nodes {trailing = c ∷ t} a ns g) r p z e depth = a _ _ _ z (nodes_are ns ((c ∷ t) ++ r) tt z (last_gap (join_gaps (g r p) e)) depth)

document_parts : (l n t : Text) → l ++ (n ++ (t ++ [])) ≡ l ++ n ++ t
document_parts l n t = simp (append_assoc, append-nil)

whole_text : (l : Text) (ns : Nodes) (t : Text) → ContentReads TextEnd l t ns → AreNodes true (l ++ print_nodes ns 0 ++ t) [] (nodes_data ns)
whole_text l ns t c = subst (λ (u : Text). AreNodes true u [] (nodes_data ns)) (document_parts l (print_nodes ns 0) t) (content_is c [] refl (inl refl) no_gap 0)

-- what a document prints is one, with its data
pub reads_derived : (d : Document) → DocumentReads d → IsDocument (print_document d 0) (document_data d)
reads_derived (document o at ns) (DocumentReads.no_bom c) = IsDocumentIn.no_bom (whole_text (leading_text o) ns (trailing_text o) c)
reads_derived (document o at ns) (DocumentReads.after_bom {leading = l} e c) =
    subst (λ (u : Text). IsDocument (u ++ print_nodes ns 0 ++ trailing_text o) (nodes_data ns)) (sym e) (IsDocumentIn.after_bom (whole_text l ns (trailing_text o) c))

-- what a node prints is a document with that node alone
pub node_derived : (n : Node) → NodeReads TextEnd n → IsDocument (print_node n 0) (data'.first (node_data n) data'.none)
node_derived n x = subst (λ (u : Text). IsDocument u (data'.first (node_data n) data'.none)) (append-nil (print_node n 0)) (IsDocumentIn.no_bom (node_are x [] refl (inl refl) (last_gap no_gap) 0))
