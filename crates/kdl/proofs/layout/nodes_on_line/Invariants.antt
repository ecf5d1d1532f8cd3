use Rattle.kdl.proofs.Common.{◌≡◌, drop, nodes_on_line, nodes_tree}
use Rattle.kdl.proofs.layout.nodes_on_line.Given as goal

abbrev pub invariant-loop-i : goal.invariant-loop-i
invariant-loop-i l = nodes_on_line (nodes_tree l.nodes) ≡ nodes_on_line (nodes_tree (drop l.i l.nodes))
