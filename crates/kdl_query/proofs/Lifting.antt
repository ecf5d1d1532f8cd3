-- A document with the node at a path exchanged: what it prints, and whether it reads back.
use Rattle.std.proofs.Common.{◌≡◌, ℕ, List, [], ◌∷◌, ◌++◌, Option, None, Some, option_and_then, option_map, slice_get, refl, ap, ◌∙◌, sym, append_assoc}
use Rattle.std.specs.Vec.{with_item}
use Rattle.kdl_text.specs.Chars.{Text}
use Rattle.kdl_grammar.specs.Print.{print_document}
use Rattle.kdl_grammar.specs.Tree.{Node, children}
use Rattle.kdl.specs.Bytes.{IsExchanged, IsExchangedInDocument, IsExchangedInNode}
use Rattle.kdl.specs.Change.{with_children, with_node}
use Rattle.kdl.specs.DocumentLookups.{nodes_of}
use Rattle.kdl.specs.EditLaw.{document_after, document_before}
use Rattle.kdl.specs.Fields.{block_of}
use Rattle.kdl.specs.ReadsBack.{BlockReadsBack, DocumentReadsBack, ReadsAs}
use Rattle.kdl.specs.Tree.{document_tree, node_tree}
use Rattle.kdl.specs.declared.document.KdlDocument.{KdlDocument}
use Rattle.kdl.specs.declared.document.KdlDocument.TheViews.{out-KdlDocument, out-roll-KdlDocument}
use Rattle.kdl.specs.declared.node.KdlNode.{KdlNode}
use Rattle.kdl.proofs.EditLaws.{node_exchanged}
use Rattle.kdl.proofs.PiecesExchanged.{block_exchanges}
use Rattle.kdl.proofs.ReadingBack.{block_exchanged, node_set_reads}
use Rattle.c_calls.specs.Changes.{changed_at}
use Rattle.c_calls.specs.Internal.Opened.{block_in, with_kids_at}
use Rattle.c_calls.specs.Paths.{block_nodes, node_at}
use Rattle.c_calls.proofs.OpenSteps.{block_set, changed_in_block, node_set}

-- a piece of a piece
within : (p q old new : Text) (a z s t : Text) → IsExchanged p q old new → s ≡ a ++ old ++ z → t ≡ a ++ new ++ z → IsExchanged p q s t
within p q old new a z s t x h k = record {
  before = a ++ x.before;
  after = x.after ++ z;
  was = h ∙ ap (λ (u : Text). a ++ u ++ z) x.was ∙ seam p;
  is = k ∙ ap (λ (u : Text). a ++ u ++ z) x.is ∙ seam q;
}
  where
    seam : (u : Text) → a ++ (x.before ++ u ++ x.after) ++ z ≡ (a ++ x.before) ++ u ++ (x.after ++ z)
    seam u = simp append_assoc

-- a document with another node at a place
node_exchanges : (p q : Text) (d : KdlDocument) (i : ℕ) (n m : KdlNode) → slice_get (nodes_of d) i ≡ Some n → IsExchangedInNode p q n m → IsExchangedInDocument p q d (with_node d i m)
node_exchanges p q d i n m h x = record { prints = at; format = ap (λ y. y.format) (out-roll-KdlDocument (record (out-KdlDocument d) { nodes = with_item (out-KdlDocument d).nodes i m })) }
  where
    at : (depth : ℕ) → IsExchanged p q (print_document (document_tree d) depth) (print_document (document_tree (with_node d i m)) depth)
    at depth =
        let (was, is) = node_exchanged d i n m depth h in
        within p q _ _ (document_before d i depth) (document_after d i depth) _ _ (x.prints depth) was is

-- a list that is not empty has a last element
last_of : (i : ℕ) (is : List ℕ) → (p : List ℕ) × (j : ℕ) × (i ∷ is ≡ p ++ j ∷ [])
last_of i [] = ([], i, refl)
last_of i (j ∷ is) = let (p, k, e) = last_of j is in (i ∷ p, k, ap (λ l. i ∷ l) e)

changed_in : (d : KdlDocument) (i : ℕ) (b : KdlDocument) (j : ℕ) (is : List ℕ) (f : Node → Node) → block_in i d ≡ Some b
    → changed_at (i ∷ j ∷ is) f (document_tree d) ≡ with_kids_at i (children (changed_at (j ∷ is) f (document_tree b))) (document_tree d)
changed_in d i b j is f h =
    let (p, k, e) = last_of j is in
    ap (λ (l : List ℕ). changed_at (i ∷ l) f (document_tree d)) e
    ∙ changed_in_block d i b p k f h
    ∙ ap (λ (l : List ℕ). with_kids_at i (children (changed_at l f (document_tree b))) (document_tree d)) (sym e)

-- d with the node n at a path exchanged for m
pub record Lifted (is : List ℕ) (d : KdlDocument) (n m : KdlNode) : Type 0 where
  pub whole : KdlDocument
  pub tree : document_tree whole ≡ changed_at is (λ _. node_tree m) (document_tree d)
  pub document_reads : ReadsAs n m → DocumentReadsBack d → DocumentReadsBack whole
  pub block_reads : ReadsAs n m → BlockReadsBack d → BlockReadsBack whole
  pub prints : (p q : Text) → IsExchangedInNode p q n m → IsExchangedInDocument p q d whole

lift_one : (i : ℕ) (d : KdlDocument) (n m : KdlNode) → slice_get (nodes_of d) i ≡ Some n → Lifted (i ∷ []) d n m
lift_one i d n m at = record {
  whole = with_node d i m;
  tree = node_set d i m;
  document_reads = λ r. (node_set_reads d i n m at r).0;
  block_reads = λ r. (node_set_reads d i n m at r).1;
  prints = λ a z x. node_exchanges a z d i n m at x;
}

lift_more : (i j : ℕ) (is : List ℕ) (d b : KdlDocument) (k n m : KdlNode) → slice_get (nodes_of d) i ≡ Some k → block_of k ≡ Some b → Lifted (j ∷ is) b n m → Lifted (i ∷ j ∷ is) d n m
lift_more i j is d b k n m at h x =
    let w = with_children k (Some x.whole) in
    let there : block_in i d ≡ Some b = ap (option_and_then block_of) at ∙ h in
    record {
      whole = with_node d i w;
      tree = block_set d i k (Some x.whole) at ∙ ap (λ c. with_kids_at i (children c) (document_tree d)) x.tree ∙ sym (changed_in d i b j is (λ _. node_tree m) there);
      document_reads = λ r. (node_set_reads d i k w at (block_exchanged k b x.whole h (x.block_reads r))).0;
      block_reads = λ r. (node_set_reads d i k w at (block_exchanged k b x.whole h (x.block_reads r))).1;
      prints = λ a z y. node_exchanges a z d i k w at (block_exchanges k b x.whole a z h (x.prints a z y));
    }

in_block : (i j : ℕ) (is : List ℕ) (d : KdlDocument) (k n m : KdlNode) → slice_get (nodes_of d) i ≡ Some k → ((b : KdlDocument) → node_at (j ∷ is) (nodes_of b) ≡ Some n → Lifted (j ∷ is) b n m)
    → (o : Option KdlDocument) → block_of k ≡ o → option_and_then (node_at (j ∷ is)) (option_map nodes_of o) ≡ Some n → Lifted (i ∷ j ∷ is) d n m
in_block i j is d k n m at f None h there = absurd (cc)
in_block i j is d k n m at f (Some b) h there = lift_more i j is d b k n m at h (f b there)

in_node : (i j : ℕ) (is : List ℕ) (d : KdlDocument) (n m : KdlNode) → ((b : KdlDocument) → node_at (j ∷ is) (nodes_of b) ≡ Some n → Lifted (j ∷ is) b n m)
    → (o : Option KdlNode) → slice_get (nodes_of d) i ≡ o → option_and_then (node_at (j ∷ is)) (option_and_then block_nodes o) ≡ Some n → Lifted (i ∷ j ∷ is) d n m
in_node i j is d n m f None at there = absurd (cc)
in_node i j is d n m f (Some k) at there = in_block i j is d k n m at f (block_of k) refl there

pub lift : (is : List ℕ) (d : KdlDocument) (n m : KdlNode) → node_at is (nodes_of d) ≡ Some n → Lifted is d n m
lift [] d n m at = absurd (cc)
lift (i ∷ []) d n m at = lift_one i d n m at
lift (i ∷ j ∷ is) d n m at = in_node i j is d n m (λ b. lift (j ∷ is) b n m) (slice_get (nodes_of d) i) refl at
