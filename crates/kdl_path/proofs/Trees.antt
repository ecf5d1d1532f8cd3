-- The tree of a document with the node at a path changed: where it reads back, what it prints, and its data.
use Rattle.std.proofs.Common.{◌≡◌, ℕ, zero, suc, ◌+◌, List, [], ◌∷◌, ◌++◌, map, set, Option, None, Some, option_and_then, option_map, slice_get, refl, ap, ◌∙◌, sym, subst, append_assoc, append-nil}
use Rattle.std.proofs.lemmas.Option.{none-some}
use Rattle.std.specs.Vec.{with_item}
use Rattle.kdl_text.specs.Chars.{Text}
use Rattle.kdl_text.specs.declared.span.SourceSpan.{SourceSpan}
use Rattle.kdl_entry.specs.Tree.{entry_data, identifier_tree}
use Rattle.kdl_grammar.specs.Data as data'
use Rattle.kdl_grammar.specs.Print.{after_brace, before_block, before_brace, end_text, leading_text, print_document, print_head, print_node, print_nodes, print_pieces, trailing_text}
use Rattle.kdl_grammar.specs.ReadsBack.{BlockReads, ContentReads, DocumentReads, NodeReads, NodesRead, Rests, block, last_node, next_node, with_nodes}
use Rattle.kdl_grammar.specs.Tree.{Document, DocumentFormat, Node, Nodes, children, children_data, children_of, document, document_data, first, no_children, node, node_data, nodes_data, none}
use Rattle.kdl_grammar.proofs.ReadingBack.Composing.{block_reads, node_before, with_block}
use Rattle.kdl_layout.proofs.Formatting.PartsRead.{content_with}
use Rattle.kdl.specs.Change.{with_children, with_node}
use Rattle.kdl.specs.DocumentLookups.{nodes_of}
use Rattle.kdl.specs.Fields.{block_of}
use Rattle.kdl.specs.Tree.{document_says, document_tree, head_tree, node_says, node_tree, nodes_tree}
use Rattle.kdl.specs.declared.document.KdlDocument.{KdlDocument}
use Rattle.kdl.specs.declared.document.KdlDocument.TheViews.{out-KdlDocument, out-KdlNode}
use Rattle.kdl.specs.declared.node.KdlNode.{KdlNode}
use Rattle.kdl.proofs.ReadingBack.{whole_as}
use Rattle.kdl.proofs.Trees.{document_tree_out, document_tree_roll, node_tree_out, node_tree_roll}
use Rattle.c_calls.specs.Changes.{changed_at, changed_below, changed_nth}
use Rattle.c_calls.specs.Paths.{block_nodes, node_at}
use Rattle.kdl_path.specs.Edits as edits
use Rattle.kdl_path.specs.Edits.{with_nth}
use Rattle.kdl_path.specs.Internal.OnEach.{Edit, edited}

-- the node m is at a path: at the place i among the nodes, and at the rest of the path below that node
abbrev mutual
  pub IsIn : ℕ → List ℕ → Nodes → Node → Type 0
  IsIn i is none m = ⊥
  IsIn zero is (first n ns) m = IsBelow is n m
  IsIn (suc i) is (first n ns) m = IsIn i is ns m

  pub IsBelow : List ℕ → Node → Node → Type 0
  IsBelow [] n m = n ≡ m
  IsBelow (i ∷ is) (node h no_children) m = ⊥
  IsBelow (i ∷ is) (node h (children (document o s ns))) m = IsIn i is ns m

abbrev pub IsAt : List ℕ → Document → Node → Type 0
IsAt [] d m = ⊥
IsAt (i ∷ is) (document o s ns) m = IsIn i is ns m

-- the tree of a node in memory
in_here : (i : ℕ) (ns : List KdlNode) (n : KdlNode) → slice_get ns i ≡ Some n → IsIn i [] (nodes_tree ns) (node_tree n)
in_here i [] n h = absurd (cc)
in_here zero (k ∷ ns) n h = let same : k ≡ n = cc in ap node_tree same
in_here (suc i) (k ∷ ns) n h = in_here i ns n h

in_block : (j : ℕ) (is : List ℕ) (k n : KdlNode) → ((b : KdlDocument) → node_at (j ∷ is) (nodes_of b) ≡ Some n → IsIn j is (nodes_tree (nodes_of b)) (node_tree n)) → option_and_then (node_at (j ∷ is)) (block_nodes k) ≡ Some n
    → IsBelow (j ∷ is) (node_tree k) (node_tree n)
in_block j is k n f h = subst (λ (x : Node). IsBelow (j ∷ is) x (node_tree n)) (sym (node_tree_out k)) (go (out-KdlNode k).children h)
  where
    go : (o : Option KdlDocument) → option_and_then (node_at (j ∷ is)) (option_map nodes_of o) ≡ Some n → IsBelow (j ∷ is) (node (head_tree (out-KdlNode k)) (children_of (option_map document_tree o))) (node_tree n)
    go None h = absurd (none-some n h)
    go (Some b) h = subst (λ (x : Document). IsBelow (j ∷ is) (node (head_tree (out-KdlNode k)) (children x)) (node_tree n)) (sym (document_tree_out b)) (f b h)

in_nodes : (j : ℕ) (is : List ℕ) (n : KdlNode) → ((b : KdlDocument) → node_at (j ∷ is) (nodes_of b) ≡ Some n → IsIn j is (nodes_tree (nodes_of b)) (node_tree n)) → (i : ℕ) (ns : List KdlNode)
    → option_and_then (node_at (j ∷ is)) (option_and_then block_nodes (slice_get ns i)) ≡ Some n → IsIn i (j ∷ is) (nodes_tree ns) (node_tree n)
in_nodes j is n f i [] h = absurd (none-some n h)
in_nodes j is n f zero (k ∷ ns) h = in_block j is k n f h
in_nodes j is n f (suc i) (k ∷ ns) h = in_nodes j is n f i ns h

in_tree : (i : ℕ) (is : List ℕ) (ns : List KdlNode) (n : KdlNode) → node_at (i ∷ is) ns ≡ Some n → IsIn i is (nodes_tree ns) (node_tree n)
in_tree i [] ns n h = in_here i ns n h
in_tree i (j ∷ is) ns n h = in_nodes j is n (λ b. in_tree j is (nodes_of b) n) i ns h

pub at_tree : (is : List ℕ) (d : KdlDocument) (n : KdlNode) → node_at is (nodes_of d) ≡ Some n → IsAt is (document_tree d) (node_tree n)
at_tree [] d n h = absurd (none-some n h)
at_tree (i ∷ is) d n h = subst (λ (x : Document). IsAt (i ∷ is) x (node_tree n)) (sym (document_tree_out d)) (in_tree i is (nodes_of d) n h)

-- the node itself in its place
mutual
  nodes_same : (i : ℕ) (is : List ℕ) (ns : Nodes) (m : Node) → IsIn i is ns m → changed_nth i (changed_below is (λ _. m)) ns ≡ ns
  nodes_same i is none m w = absurd w
  nodes_same zero is (first n ns) m w = ap (λ k. first k ns) (node_same is n m w)
  nodes_same (suc i) is (first n ns) m w = ap (first n) (nodes_same i is ns m w)

  node_same : (is : List ℕ) (n m : Node) → IsBelow is n m → changed_below is (λ _. m) n ≡ n
  node_same [] n m w = sym w
  node_same (i ∷ is) (node h no_children) m w = absurd w
  node_same (i ∷ is) (node h (children (document o s ns))) m w = ap (λ k. node h (children (document o s k))) (nodes_same i is ns m w)

pub same_at : (is : List ℕ) (d : Document) (m : Node) → IsAt is d m → changed_at is (λ _. m) d ≡ d
same_at [] d m w = absurd w
same_at (i ∷ is) (document o s ns) m w = ap (document o s) (nodes_same i is ns m w)

-- a node that reads back before some rests
pub record AnyReads (m : Node) : Type 0 where
  pub before : Rests
  pub there : NodeReads before m

-- the node m reads back, and T holds of each change after which it does where it did
pub record StillReads (m : Node) (T : (Node → Node) → Type 0) : Type 0 where
  pub own : AnyReads m
  pub changed : (f : Node → Node) → ((P : Rests) → NodeReads P m → NodeReads P (f m)) → T f

pub content_as : {P : Rests} {l t : Text} (n : Node) (ns ms : Nodes) → ((Q : Rests) → NodesRead Q (first n ns) → NodesRead Q ms) → ContentReads P l t (first n ns) → ContentReads P l t ms
content_as n ns ms f (with_nodes a x g) = content_with ms a (f _ x) g

block_as : (o : Option DocumentFormat) (s : SourceSpan) (n : Node) (ns ms : Nodes) → ((Q : Rests) → NodesRead Q (first n ns) → NodesRead Q ms) → BlockReads (document o s (first n ns)) → BlockReads (document o s ms)
block_as o s n ns ms f (block c) = block (content_as n ns ms f c)

content_of : {P : Rests} {l t : Text} (n : Node) (ns : Nodes) (A : Type 0) → ((Q : Rests) → NodesRead Q (first n ns) → A) → ContentReads P l t (first n ns) → A
content_of n ns A f (with_nodes a x g) = f _ x

in_document : (o : Option DocumentFormat) (s : SourceSpan) (n : Node) (ns : Nodes) (A : Type 0) → ((Q : Rests) → NodesRead Q (first n ns) → A) → DocumentReads (document o s (first n ns)) → A
in_document o s n ns A f (DocumentReads.no_bom c) = content_of n ns A f c
in_document o s n ns A f (DocumentReads.after_bom e c) = content_of n ns A f c

in_a_block : (o : Option DocumentFormat) (s : SourceSpan) (n : Node) (ns : Nodes) (A : Type 0) → ((Q : Rests) → NodesRead Q (first n ns) → A) → BlockReads (document o s (first n ns)) → A
in_a_block o s n ns A f (block c) = content_of n ns A f c

mutual
  nodes_read : {P : Rests} (i : ℕ) (is : List ℕ) (ns : Nodes) (m : Node) → IsIn i is ns m → NodesRead P ns → StillReads m (λ f. NodesRead P (changed_nth i (changed_below is f) ns))
  nodes_read i is none m w x = absurd w
  nodes_read zero is (first n none) m w (last_node x) = let r = node_reads is n m w x in record { own = r.own; changed = λ f g. last_node (r.changed f g) }
  nodes_read zero is (first n (first k ns)) m w (next_node x xs) = let r = node_reads is n m w x in record { own = r.own; changed = λ f g. next_node (r.changed f g) xs }
  nodes_read (suc i) is (first n none) m w x = absurd w
  nodes_read (suc i) is (first n (first k ns)) m w (next_node x xs) = let r = nodes_read i is (first k ns) m w xs in record { own = r.own; changed = λ f g. node_before x (r.changed f g) }

  node_reads : {P : Rests} (is : List ℕ) (n m : Node) → IsBelow is n m → NodeReads P n → StillReads m (λ f. NodeReads P (changed_below is f n))
  node_reads {P = P} [] n m w x =
      let y : NodeReads P m = subst (λ (k : Node). NodeReads P k) w x in
      record { own = record { before = P; there = y }; changed = λ f g. subst (λ (k : Node). NodeReads P (f k)) (sym w) (g P y) }
  node_reads (i ∷ is) (node h no_children) m w x = absurd w
  node_reads (i ∷ is) (node h (children (document o s none))) m w x = absurd w
  node_reads (i ∷ is) (node h (children (document o s (first k ns)))) m w x = record {
    own = in_a_block o s k ns (AnyReads m) (λ Q y. (nodes_read i is (first k ns) m w y).own) (block_reads x);
    changed = λ f g.
        let ms = changed_nth i (changed_below is f) (first k ns) in
        with_block (document o s ms) x (block_as o s k ns ms (λ Q y. (nodes_read i is (first k ns) m w y).changed f g) (block_reads x));
  }

pub reads_at : (is : List ℕ) (d : Document) (m : Node) → IsAt is d m → DocumentReads d → StillReads m (λ f. DocumentReads (changed_at is f d))
reads_at [] d m w x = absurd w
reads_at (i ∷ is) (document o s none) m w x = absurd w
reads_at (i ∷ is) (document o s (first k ns)) m w x = record {
  own = in_document o s k ns (AnyReads m) (λ Q y. (nodes_read i is (first k ns) m w y).own) x;
  changed = λ f g. whole_as o s s (first k ns) _ (λ l c. content_as k ns _ (λ Q y. (nodes_read i is (first k ns) m w y).changed f g) c) x;
}

-- the text T x is that of `piece x` between two texts, which are the same for each x
pub record IsAround {A : Type 0} (piece T : A → Text) : Type 0 where
  pub before : Text
  pub after : Text
  pub prints : (x : A) → T x ≡ before ++ piece x ++ after

-- a piece of a piece, more text around it, the same text, and some of the x
pub within : {A : Type 0} {p q T : A → Text} → IsAround q T → IsAround p q → IsAround p T
within {p = p} x y = record { before = x.before ++ y.before; after = y.after ++ x.after; prints = λ a. x.prints a ∙ ap (λ (t : Text). x.before ++ t ++ x.after) (y.prints a) ∙ seam (p a) }
  where
    seam : (t : Text) → x.before ++ (y.before ++ t ++ y.after) ++ x.after ≡ (x.before ++ y.before) ++ t ++ (y.after ++ x.after)
    seam t = simp append_assoc

pub text_first : {A : Type 0} {p T : A → Text} (a : Text) → IsAround p T → IsAround p (λ x. a ++ T x)
text_first {p = p} a r = record { before = a ++ r.before; after = r.after; prints = λ x. ap (λ (t : Text). a ++ t) (r.prints x) ∙ seam (p x) }
  where
    seam : (t : Text) → a ++ (r.before ++ t ++ r.after) ≡ (a ++ r.before) ++ t ++ r.after
    seam t = simp append_assoc

pub text_last : {A : Type 0} {p T : A → Text} (z : Text) → IsAround p T → IsAround p (λ x. T x ++ z)
text_last {p = p} z r = record { before = r.before; after = r.after ++ z; prints = λ x. ap (λ (t : Text). t ++ z) (r.prints x) ∙ append_assoc (r.before ++ p x) r.after z }

pub same_text : {A : Type 0} {p S T : A → Text} → ((x : A) → S x ≡ T x) → IsAround p T → IsAround p S
same_text e r = record { before = r.before; after = r.after; prints = λ x. e x ∙ r.prints x }

pub of_each : {A B : Type 0} {p T : A → Text} (f : B → A) → IsAround p T → IsAround (λ x. p (f x)) (λ x. T (f x))
of_each f r = record { before = r.before; after = r.after; prints = λ x. r.prints (f x) }

-- the depth of the node at the rest of a path below a node at a depth
abbrev pub depth_below : List ℕ → ℕ → ℕ
depth_below [] depth = depth
depth_below (i ∷ is) depth = depth_below is (depth + 1)

mutual
  nodes_print : (i : ℕ) (is : List ℕ) (ns : Nodes) (m : Node) → IsIn i is ns m → (depth : ℕ) → IsAround (λ (f : Node → Node). print_node (f m) (depth_below is depth)) (λ f. print_nodes (changed_nth i (changed_below is f) ns) depth)
  nodes_print i is none m w depth = absurd w
  nodes_print zero is (first n ns) m w depth = text_last (print_nodes ns depth) (node_prints is n m w depth)
  nodes_print (suc i) is (first n ns) m w depth = text_first (print_node n depth) (nodes_print i is ns m w depth)

  node_prints : (is : List ℕ) (n m : Node) → IsBelow is n m → (depth : ℕ) → IsAround (λ (f : Node → Node). print_node (f m) (depth_below is depth)) (λ f. print_node (changed_below is f n) depth)
  node_prints [] n m w depth = record { before = []; after = []; prints = λ f. ap (λ (k : Node). print_node (f k) depth) w ∙ sym (append-nil _) }
  node_prints (i ∷ is) (node h no_children) m w depth = absurd w
  node_prints (i ∷ is) (node h (children (document o s ns))) m w depth =
      text_first (print_head h depth ++ print_pieces h.entries)
      (text_last (125 ∷ end_text h.format) (text_last (before_brace o depth) (text_first (before_block h.format h.entries ++ (123 ∷ after_brace o)) (text_last (trailing_text o) (text_first (leading_text o) (nodes_print i is ns m w (depth + 1)))))))

pub prints_at : (is : List ℕ) (d : Document) (m : Node) → IsAt is d m → (depth : ℕ) × IsAround (λ (f : Node → Node). print_node (f m) depth) (λ f. print_document (changed_at is f d) 0)
prints_at [] d m w = absurd w
prints_at (i ∷ is) (document o s ns) m w = (depth_below is 0, text_last (trailing_text o) (text_first (leading_text o) (nodes_print i is ns m w 0)))

-- the data, after a change that is the edit g of the data of the node
record IsEditOf (f : Node → Node) (m : Node) (g : data'.Node → data'.Node) (e : Edit) : Type 0 where
  pub here : node_data (f m) ≡ g (node_data m)
  pub same : (i : ℕ) (x : data'.Nodes) → e i x ≡ with_nth i g x

abbrev edit_below : (data'.Node → data'.Node) → Edit → List ℕ → data'.Node → data'.Node
edit_below g e [] = g
edit_below g e (i ∷ is) = edits.with_block (edited e (i ∷ is))

edit_nth : (g : data'.Node → data'.Node) (e : Edit) → ((i : ℕ) (x : data'.Nodes) → e i x ≡ with_nth i g x) → (i : ℕ) (is : List ℕ) (x : data'.Nodes) → edited e (i ∷ is) x ≡ with_nth i (edit_below g e is) x
edit_nth g e h i [] x = h i x
edit_nth g e h i (j ∷ is) x = refl

mutual
  nodes_say : (f : Node → Node) (g : data'.Node → data'.Node) (e : Edit) (i : ℕ) (is : List ℕ) (ns : Nodes) (m : Node) → IsEditOf f m g e → IsIn i is ns m → nodes_data (changed_nth i (changed_below is f) ns) ≡ with_nth i (edit_below g e is) (nodes_data ns)
  nodes_say f g e i is none m h w = absurd w
  nodes_say f g e zero is (first n ns) m h w = ap (λ k. data'.first k (nodes_data ns)) (node_say f g e is n m h w)
  nodes_say f g e (suc i) is (first n ns) m h w = ap (data'.first (node_data n)) (nodes_say f g e i is ns m h w)

  node_say : (f : Node → Node) (g : data'.Node → data'.Node) (e : Edit) (is : List ℕ) (n m : Node) → IsEditOf f m g e → IsBelow is n m → node_data (changed_below is f n) ≡ edit_below g e is (node_data n)
  node_say f g e [] n m h w = ap (λ (k : Node). node_data (f k)) w ∙ h.here ∙ ap (λ (k : Node). g (node_data k)) (sym w)
  node_say f g e (i ∷ is) (node h no_children) m k w = absurd w
  node_say f g e (i ∷ is) (node h (children (document o s ns))) m k w =
      ap (λ y. data'.node (option_map (λ i. i.value) h.ty) h.name.value (map entry_data h.entries) (data'.children y)) (nodes_say f g e i is ns m k w ∙ sym (edit_nth g e k.same i is (nodes_data ns)))

pub says_at : (f : Node → Node) (g : data'.Node → data'.Node) (e : Edit) (is : List ℕ) (d : Document) (m : Node) → node_data (f m) ≡ g (node_data m) → ((i : ℕ) (x : data'.Nodes) → e i x ≡ with_nth i g x) → IsAt is d m
    → document_data (changed_at is f d) ≡ edited e is (document_data d)
says_at f g e [] d m h k w = absurd w
says_at f g e (i ∷ is) (document o s ns) m h k w = nodes_say f g e i is ns m (record { here = h; same = k }) w ∙ sym (edit_nth g e k i is (nodes_data ns))

-- the data of a document in memory with another node, and of a node with another block
held_say : (ns : List KdlNode) (i : ℕ) (n m : KdlNode) (g : data'.Node → data'.Node) → slice_get ns i ≡ Some n → node_says m ≡ g (node_says n) → nodes_data (nodes_tree (set ns i m)) ≡ with_nth i g (nodes_data (nodes_tree ns))
held_say [] i n m g h e = absurd (cc)
held_say (y ∷ ns) zero n m g h e = let same : n ≡ y = cc in ap (λ z. data'.first z (nodes_data (nodes_tree ns))) (e ∙ ap (λ z. g (node_says z)) same)
held_say (y ∷ ns) (suc i) n m g h e = ap (data'.first (node_says y)) (held_say ns i n m g h e)

pub node_set_says : (d : KdlDocument) (i : ℕ) (n m : KdlNode) (g : data'.Node → data'.Node) → slice_get (nodes_of d) i ≡ Some n → node_says m ≡ g (node_says n) → document_says (with_node d i m) ≡ with_nth i g (document_says d)
node_set_says d i n m g h e =
    ap document_data (document_tree_roll (record (out-KdlDocument d) { nodes = with_item (out-KdlDocument d).nodes i m }))
    ∙ held_say (nodes_of d) i n m g h e
    ∙ ap (with_nth i g) (sym (ap document_data (document_tree_out d)))

pub block_set_says : (k : KdlNode) (b w : KdlDocument) (f : data'.Nodes → data'.Nodes) → block_of k ≡ Some b → document_says w ≡ f (document_says b) → node_says (with_children k (Some w)) ≡ edits.with_block f (node_says k)
block_set_says k b w f h e =
    let X = out-KdlNode k in
    let says = λ (c : data'.Children). data'.node (option_map (λ i. i.value) (option_map identifier_tree X.ty)) (identifier_tree X.name).value (map entry_data (head_tree X).entries) c in
    ap node_data (node_tree_roll (record X { children = Some w }))
    ∙ ap (λ x. says (data'.children x)) e
    ∙ sym (ap (edits.with_block f) (ap node_data (node_tree_out k) ∙ ap (λ (o : Option KdlDocument). says (children_data (children_of (option_map document_tree o)))) h))
