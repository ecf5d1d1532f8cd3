use Rattle.std.proofs.Common.{◌+◌, ◌≤◌, take}
use Rattle.std.specs.List.{sum_by}
use Rattle.kdl.specs.Internal.Count.{count_doc, count_node}
use Rattle.rows.proofs.dump.Dump.level.Given as goal

abbrev pub invariant-loop-index : goal.invariant-loop-index
invariant-loop-index l =
    sum_by (λ w. count_doc w.document.now) l.waiting.items ≤ sum_by (λ w. count_doc w.document.now) l.initial.waiting.items + sum_by count_node (take l.index l.node-items)
