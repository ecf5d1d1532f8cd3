-- One step down a path.
use Rattle.std.proofs.Common.{◌≡◌, ℕ, ◌+◌, ◌<◌, ◌≤◌, List, [], ◌∷◌, ◌++◌, Option, Some, None, ap, ◌∙◌, sym, refl, length, drop, option_map, slice_index_or}
use Rattle.std.specs.Prelude.{option_and_then, slice_get}
use Rattle.std.proofs.lemmas.List.{drop_more, drop_all}
use Rattle.kdl.specs.Words.{nodes_of}
use Rattle.kdl.specs.declared.node.KdlNode.{KdlNode, out-KdlNode}
use Rattle.kdl.specs.declared.document.KdlDocument.{KdlDocument}
use Rattle.c_calls.specs.Paths.{block_nodes, node_at, nodes_at}

one_step : (p : List ℕ) (i : ℕ) (ns : List KdlNode) → i < length p
    → nodes_at (drop i p) ns ≡ option_and_then (nodes_at (drop (i + 1) p)) (option_and_then block_nodes (slice_get ns (slice_index_or p i 0)))
one_step p i ns k = ap (λ q. nodes_at q ns) (drop_more p i 0 k)

pub goes_down : (p : List ℕ) (i : ℕ) (ns : List KdlNode) (n : KdlNode) (d : KdlDocument) → i < length p
    → slice_get ns (slice_index_or p i 0) ≡ Some n → (out-KdlNode n).children ≡ Some d
    → nodes_at (drop (i + 1) p) (nodes_of d) ≡ nodes_at (drop i p) ns
goes_down p i ns n d k at has = sym
    (one_step p i ns k
    ∙ ap (λ o. option_and_then (nodes_at (drop (i + 1) p)) (option_and_then block_nodes o)) at
    ∙ ap (λ o. option_and_then (nodes_at (drop (i + 1) p)) (option_map nodes_of o)) has)

pub none_there : (p : List ℕ) (i : ℕ) (ns : List KdlNode) → i < length p
    → slice_get ns (slice_index_or p i 0) ≡ None → nodes_at (drop i p) ns ≡ None
none_there p i ns k at =
    one_step p i ns k ∙ ap (λ o. option_and_then (nodes_at (drop (i + 1) p)) (option_and_then block_nodes o)) at

pub no_block : (p : List ℕ) (i : ℕ) (ns : List KdlNode) (n : KdlNode) → i < length p
    → slice_get ns (slice_index_or p i 0) ≡ Some n → (out-KdlNode n).children ≡ None → nodes_at (drop i p) ns ≡ None
no_block p i ns n k at has =
    one_step p i ns k
    ∙ ap (λ o. option_and_then (nodes_at (drop (i + 1) p)) (option_and_then block_nodes o)) at
    ∙ ap (λ o. option_and_then (nodes_at (drop (i + 1) p)) (option_map nodes_of o)) has

pub at_end : (p : List ℕ) (i : ℕ) (ns : List KdlNode) → length p ≤ i → Some ns ≡ nodes_at (drop i p) ns
at_end p i ns k = ap (λ q. nodes_at q ns) (sym (drop_all i p k))

-- the node at a path, by its last index
last_below : (i : ℕ) (o : Option (List KdlNode)) → option_and_then (node_at (i ∷ [])) o ≡ option_and_then (λ ms. slice_get ms i) (option_and_then (nodes_at []) o)
last_below i None = refl
last_below i (Some ms) = refl

last_deeper : (q p : List ℕ) (i : ℕ) → ((ms : List KdlNode) → node_at q ms ≡ option_and_then (λ ns. slice_get ns i) (nodes_at p ms)) → (o : Option (List KdlNode))
    → option_and_then (node_at q) o ≡ option_and_then (λ ms. slice_get ms i) (option_and_then (nodes_at p) o)
last_deeper q p i f None = refl
last_deeper q p i f (Some ms) = f ms

pub last_step : (p : List ℕ) (i : ℕ) (ns : List KdlNode) → node_at (p ++ i ∷ []) ns ≡ option_and_then (λ ms. slice_get ms i) (nodes_at p ns)
last_step [] i ns = refl
last_step (j ∷ []) i ns = last_below i (option_and_then block_nodes (slice_get ns j))
last_step (j ∷ k ∷ p) i ns = last_deeper (k ∷ p ++ i ∷ []) (k ∷ p) i (λ ms. last_step (k ∷ p) i ms) (option_and_then block_nodes (slice_get ns j))

pub at_last : (path above : List ℕ) (i : ℕ) (ns : List KdlNode) (o : Option (List KdlNode)) (r : Option KdlNode) → path ≡ above ++ i ∷ [] → nodes_at above ns ≡ o
    → option_and_then (λ ms. slice_get ms i) o ≡ r → r ≡ node_at path ns
at_last path above i ns o r whole there found = sym (ap (λ p. node_at p ns) whole ∙ last_step above i ns ∙ ap (option_and_then (λ ms. slice_get ms i)) there ∙ found)
