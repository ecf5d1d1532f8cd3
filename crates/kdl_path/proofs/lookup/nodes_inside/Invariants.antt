use Rattle.std.proofs.Common.{◌≡◌, map, take}
use Rattle.std.specs.List.{flat_map}
use Rattle.kdl.specs.Words.{child_nodes}
use Rattle.kdl_path.specs.Internal.Located.{named_in}
use Rattle.kdl_path.proofs.lookup.nodes_inside.Given as goal

-- the nodes to which the step leads from the nodes so far
abbrev pub invariant-loop-node : goal.invariant-loop-node
invariant-loop-node l = map (λ n. n.now) l.inside.items ≡ flat_map (λ n. named_in l.step (child_nodes n)) (map (λ n. n.now) (take l.node-index l.nodes))
