use Rattle.std.proofs.Common.{map}
use Rattle.use_files.specs.Breaches.{block_of, breach_view}
use Rattle.use_files.proofs.DueBlocks.{IsComplete, due_size}
use Rattle.use_files.proofs.schema.breaches.Given as goal

abbrev pub invariant-loop-next : goal.invariant-loop-next
invariant-loop-next l = IsComplete l.rules l.document (map breach_view l.found.items) (map block_of l.due.items)

abbrev pub decreases-loop-next : goal.decreases-loop-next
decreases-loop-next l = due_size (map block_of l.due.items)
