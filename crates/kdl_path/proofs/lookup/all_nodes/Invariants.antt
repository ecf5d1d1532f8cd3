use Rattle.std.proofs.Common.{◌≡◌, drop, map}
use Rattle.std.specs.List.{flat_map}
use Rattle.kdl.specs.Words.{nodes_of}
use Rattle.kdl_path.specs.Internal.Located.{reached}
use Rattle.kdl_path.specs.Internal.Every.{reached_at}
use Rattle.kdl_path.proofs.lookup.all_nodes.Given as goal

-- the rest of the steps leads on from the nodes
abbrev pub invariant-loop-step : goal.invariant-loop-step
invariant-loop-step l = flat_map (reached (drop l.step-index l.below)) (map (λ n. n.now) l.nodes.items) ≡ reached_at l.steps (nodes_of l.document)
