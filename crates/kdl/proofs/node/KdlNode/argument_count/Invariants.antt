use Rattle.kdl.proofs.Common.{◌≡◌, ◌≤◌, take, is_argument}
use Rattle.std.specs.List.{count_by}
use Rattle.kdl.proofs.node.KdlNode.argument_count.Given as goal

abbrev pub invariant-loop-entry : goal.invariant-loop-entry
invariant-loop-entry l = (l.count ≡ count_by is_argument (take l.entry-index l.entries)) × (l.count ≤ l.entry-index)
