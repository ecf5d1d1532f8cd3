use Rattle.std.proofs.Common.{◌≡◌, length}
use Rattle.kdl_query.specs.Held.{held_below}
use Rattle.kdl_query.proofs.path.node_below.Given as goal

abbrev pub invariant-loop-index : goal.invariant-loop-index
invariant-loop-index l = held_below l.rest l.node ≡ held_below l.path l.fn.node

abbrev pub decreases-loop-index : goal.decreases-loop-index
decreases-loop-index l = length l.rest
