use Rattle.std.proofs.Common.{◌≡◌, ◌-◌, length}
use Rattle.kdl_text.specs.Spans.{raise}
use Rattle.kdl_query.specs.Selects.{Path}
use Rattle.kdl_query.specs.Internal.Visits.{Passes, level_due, level_says, steps_of}
use Rattle.kdl_query.proofs.walk.Level.advance.Given as goal

abbrev pub invariant-loop-node : goal.invariant-loop-node
invariant-loop-node l = record {
  due : (q : Path) → Passes (level_due q (level_says l.fn.self)) (level_due q (level_says l.self));
  kept : l.self.nodes ≡ l.fn.self.nodes;
  counted : (q : Path) → raise l.count (steps_of (level_due q (level_says l.self))) ≡ raise l.fn.count (steps_of (level_due q (level_says l.fn.self)));
}

abbrev pub decreases-loop-node : goal.decreases-loop-node
decreases-loop-node l = length (level_says l.self).nodes - l.self.next
