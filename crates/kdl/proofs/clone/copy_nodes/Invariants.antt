use Rattle.kdl.proofs.Common.{◌≡◌, ◌++◌, map, outermost, node_tree, count_left}
use Rattle.kdl.proofs.clone.copy_nodes.Given as goal

abbrev pub invariant-left : goal.invariant-left
invariant-left l = outermost l.above.items (map node_tree l.made.items ++ map node_tree l.rest) ≡ map node_tree l.nodes

abbrev pub decreases-left : goal.decreases-left
decreases-left l = count_left (λ o. o.0.following.now) l.rest l.above.items
