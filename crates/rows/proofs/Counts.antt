-- How many nodes and documents wait.
use Rattle.std.proofs.Common.{arith, ◌≡◌, ◌+◌, ◌<◌, ◌≤◌, List, [], ◌∷◌, ◌++◌, ap, ◌∙◌, sym, refl}
use Rattle.std.specs.List.{sum_by}
use Rattle.std.proofs.lemmas.List.Sums.{sum_by-cons, sum_by_push}
use Rattle.kdl.specs.Internal.Count.{count_doc, count_node, count_nodes}
use Rattle.kdl.specs.DocumentLookups.{nodes_of}
use Rattle.kdl.specs.declared.document.KdlDocument.{KdlDocument}
use Rattle.kdl.specs.declared.node.KdlNode.{KdlNode}
use Rattle.kdl.proofs.NodeCounts.{count_doc_out}

nodes_sum : (ns : List KdlNode) → count_nodes ns ≡ sum_by count_node ns
nodes_sum [] = refl
nodes_sum (n ∷ ns) = ap (λ k. count_node n + k) (nodes_sum ns) ∙ sym (sum_by-cons count_node n ns)

-- where a document that waits is taken, and no more than its blocks wait in its place, less waits
pub less_waits : {A : Type 0} (document : A → KdlDocument) (old mid new : List A) (next : A) → old ≡ mid ++ next ∷ []
    → sum_by (λ w. count_doc (document w)) new ≤ sum_by (λ w. count_doc (document w)) mid + sum_by count_node (nodes_of (document next))
    → sum_by (λ w. count_doc (document w)) new < sum_by (λ w. count_doc (document w)) old
less_waits document old mid new next e le =
    omega (arith, le, ap (sum_by (λ w. count_doc (document w))) e, sum_by_push (λ w. count_doc (document w)) mid next, count_doc_out (document next), nodes_sum (nodes_of (document next)))
