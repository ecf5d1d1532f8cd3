-- Documents and nodes that stay as they are where an edit inside returns None.
use Rattle.std.proofs.Common.{◌≡◌, ℕ, zero, suc, List, [], ◌∷◌, map, set, Option, Some, None, IfNone, option_and_then, option_map, slice_get, refl, ap, sym, ◌∙◌}
use Rattle.std.specs.Vec.{with_item}
use Rattle.kdl.specs.DocumentLookups.{is_node_named, node_place, with_node_there}
use Rattle.kdl.specs.Tree.{document_of, node_step}
use Rattle.kdl.specs.Words.{Document, Node, block_of, document_tree, node_named, node_tree, nodes_of, with_children, with_node_named}
use Rattle.kdl.specs.declared.document.KdlDocument.{KdlDocument}
use Rattle.kdl.specs.declared.document.KdlDocument.TheViews.{out-KdlDocument, out-KdlNode}
use Rattle.kdl.specs.declared.node.KdlNode.{KdlNode}
use Rattle.kdl.proofs.Finding.DocumentLookups.{found_there}
use Rattle.kdl.proofs.Trees.{document_tree_out, document_tree_roll, node_tree_out, node_tree_roll}

-- an element exchanged for one that maps to the same
set_same : {A B : Type 0} (f : A → B) (xs : List A) (i : ℕ) (x y : A) → slice_get xs i ≡ Some x → f y ≡ f x → map f (set xs i y) ≡ map f xs
set_same f [] i x y h e = absurd (cc)
set_same f (z ∷ zs) zero x y h e = let own : z ≡ x = cc in ap (λ w. w ∷ map f zs) (e ∙ ap f (sym own))
set_same f (z ∷ zs) (suc i) x y h e = ap (λ w. f z ∷ w) (set_same f zs i x y h e)

-- a document with its first node of a name exchanged for one of the same tree
named_stays : (s : List ℕ) (d : KdlDocument) (n m : KdlNode) → Some n ≡ node_named s d → node_tree m ≡ node_tree n → document_tree (with_node_named s d m) ≡ document_tree d
named_stays s d n m h e = go (node_place s d) (sym (found_there (is_node_named s) (nodes_of d)) ∙ sym h)
  where
    go : (o : Option ℕ) → option_and_then (λ i. slice_get (nodes_of d) i) o ≡ Some n → document_tree (with_node_there o d m) ≡ document_tree d
    go None k = refl
    go (Some i) k =
        document_tree_roll (record (out-KdlDocument d) { nodes = with_item (out-KdlDocument d).nodes i m })
        ∙ ap (document_of d) (set_same node_tree (nodes_of d) i n m k e)
        ∙ sym (document_tree_out d)

-- a node with another block, by its tree
abbrev with_block_tree : KdlNode → Option Document → Node
with_block_tree n z = node_step (record {
  ty = (out-KdlNode n).ty;
  name = (out-KdlNode n).name;
  entries = (out-KdlNode n).entries;
  children = z;
  format = (out-KdlNode n).format;
  span = (out-KdlNode n).span;
})

-- a node with its block exchanged for one of the same tree
block_stays : (n : KdlNode) (o : Option KdlDocument) → option_map document_tree o ≡ option_map document_tree (block_of n) → node_tree (with_children n o) ≡ node_tree n
block_stays n o h = node_tree_roll (record (out-KdlNode n) { children = o }) ∙ ap (with_block_tree n) h ∙ sym (node_tree_out n)

pub named_none : {A : Type 0} (r : Option A) (s : List ℕ) (d : KdlDocument) (n m : KdlNode) → Some n ≡ node_named s d → IfNone r (node_tree m ≡ node_tree n)
    → IfNone r (document_tree (with_node_named s d m) ≡ document_tree d)
named_none None s d n m h e = named_stays s d n m h e
named_none (Some x) s d n m h e = tt

pub block_none : {A : Type 0} (r : Option A) (n : KdlNode) (d e : KdlDocument) → Some d ≡ block_of n → IfNone r (document_tree e ≡ document_tree d)
    → IfNone r (node_tree (with_children n (Some e)) ≡ node_tree n)
block_none None n d e h k = block_stays n (Some e) (ap Some k ∙ ap (option_map document_tree) h)
block_none (Some x) n d e h k = tt
