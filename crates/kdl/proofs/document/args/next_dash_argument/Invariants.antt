use Rattle.kdl.proofs.Common.{◌≡◌, iter_rest, dash_arguments}
use Rattle.kdl.proofs.document.args.next_dash_argument.Given as goal

abbrev pub invariant-loop-node : goal.invariant-loop-node
invariant-loop-node l =
    (goal.iterator-loop-node).can_next l.nodes × (goal.iterator-loop-node).is_finite l.nodes
    × (dash_arguments (iter_rest l.nodes) ≡ dash_arguments (iter_rest l.initial.nodes))
