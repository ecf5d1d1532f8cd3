-- A change to the node at the end of a path of indices.
use Rattle.std.proofs.Common.{◌≡◌, ℕ, List, [], ◌∷◌, ◌++◌, Option, None, Some, OnOk, IfErr, IfOk, Result, Ok, Err, ap, ◌∙◌, sym, refl, slice_get}
use Rattle.std.specs.Prelude.{option_and_then}
use Rattle.kdl.specs.Words.{document_tree, node_tree, nodes_of}
use Rattle.kdl.specs.declared.document.KdlDocument.{KdlDocument}
use Rattle.kdl.specs.declared.node.KdlNode.{KdlNode}
use Rattle.c_calls.specs.Changes.{AtNode, changed_at}
use Rattle.c_calls.specs.Internal.Opened.{IsOpened, plugged}
use Rattle.c_calls.specs.Paths.{block_nodes, node_at, nodes_at}
use Rattle.c_calls.specs.declared.opened.Opened.{Opened}
use Rattle.kdl_path.specs.Internal.Changed.{IsMade, IsMadeIn}
use Rattle.kdl_path.specs.declared.change.Change.{Change}

pub on_ok : {T E P Q : Type 0} (r : Result T E) → (P → Q) → OnOk r P → OnOk r Q
on_ok (Ok x) f h = f h
on_ok (Err x) f h = h

pub if_ok : {T E : Type 0} (r : Result T E) (P Q : T → Type 0) → ((x : T) → P x → Q x) → IfOk r P → IfOk r Q
if_ok (Ok x) P Q f h = f x h
if_ok (Err e) P Q f h = h

-- the node at a path, by its last index
last_below : (i : ℕ) (o : Option (List KdlNode)) → option_and_then (node_at (i ∷ [])) o ≡ option_and_then (λ ms. slice_get ms i) (option_and_then (nodes_at []) o)
last_below i None = refl
last_below i (Some ms) = refl

last_deeper : (q p : List ℕ) (i : ℕ) → ((ms : List KdlNode) → node_at q ms ≡ option_and_then (λ ns. slice_get ns i) (nodes_at p ms)) → (o : Option (List KdlNode))
    → option_and_then (node_at q) o ≡ option_and_then (λ ms. slice_get ms i) (option_and_then (nodes_at p) o)
last_deeper q p i f None = refl
last_deeper q p i f (Some ms) = f ms

last_step : (p : List ℕ) (i : ℕ) (ns : List KdlNode) → node_at (p ++ i ∷ []) ns ≡ option_and_then (λ ms. slice_get ms i) (nodes_at p ns)
last_step [] i ns = refl
last_step (j ∷ []) i ns = last_below i (option_and_then block_nodes (slice_get ns j))
last_step (j ∷ k ∷ p) i ns = last_deeper (k ∷ p ++ i ∷ []) (k ∷ p) i (λ ms. last_step (k ∷ p) i ms) (option_and_then block_nodes (slice_get ns j))

-- a change in the block at the end of a path
pub made_at : (path above : List ℕ) (i : ℕ) (c : Change) (d e : KdlDocument) (o : Opened) (b : KdlDocument) → path ≡ above ++ i ∷ [] → IsOpened above d o → IsMadeIn i c o.block b → document_tree e ≡ plugged o.above.items (document_tree b)
    → AtNode path (IsMade c) d e
made_at path above i c d e o b whole h made closed = record {
  old = made.old;
  new = made.new;
  there = ap (λ p. node_at p (nodes_of d)) whole ∙ last_step above i (nodes_of d) ∙ ap (option_and_then (λ ms. slice_get ms i)) (sym h.nodes) ∙ made.there;
  related = made.made;
  rest = closed ∙ ap (plugged o.above.items) made.rest ∙ h.changed i (node_tree made.new) ∙ ap (λ p. changed_at p (λ _. node_tree made.new) (document_tree d)) (sym whole);
}

pub if_err : {T E : Type 0} (r : Result T E) (P Q : E → Type 0) → ((e : E) → P e → Q e) → IfErr r P → IfErr r Q
if_err (Ok x) P Q f h = h
if_err (Err e) P Q f h = f e h
