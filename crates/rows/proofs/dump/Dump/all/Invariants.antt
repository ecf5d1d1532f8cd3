use Rattle.std.specs.List.{sum_by}
use Rattle.kdl.specs.Internal.Count.{count_doc}
use Rattle.rows.proofs.dump.Dump.all.Given as goal

abbrev pub decreases-loop-next : goal.decreases-loop-next
decreases-loop-next l = sum_by (λ w. count_doc w.document.now) l.waiting.items
