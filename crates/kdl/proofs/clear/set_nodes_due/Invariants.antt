use Rattle.kdl.proofs.Common.{map, due, node_tree}
use Rattle.kdl_parts.proofs.Loops.{Changed}
use Rattle.kdl.proofs.clear.set_nodes_due.Given as goal

abbrev pub invariant-loop-node : goal.invariant-loop-node
invariant-loop-node l = Changed node_tree due l.node-items l.node-index (map node_tree l.initial.node-items)
