use Rattle.kdl_parts.proofs.Common.{◌≡◌, iter_rest, arguments}
use Rattle.kdl_parts.proofs.iter.next_argument.Given as goal

abbrev pub invariant-loop-entry : goal.invariant-loop-entry
invariant-loop-entry l =
    (goal.iterator-loop-entry).can_next l.entries × (goal.iterator-loop-entry).is_finite l.entries
    × (arguments (iter_rest l.entries) ≡ arguments (iter_rest l.initial.entries))
