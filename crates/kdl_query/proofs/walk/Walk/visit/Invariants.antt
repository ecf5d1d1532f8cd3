use Rattle.std.proofs.Common.{◌≡◌, ◌≤◌, length}
use Rattle.kdl.specs.declared.document.KdlDocument.{KdlDocument}
use Rattle.kdl_text.specs.Spans.{raise}
use Rattle.kdl_query.specs.Selects.{Path}
use Rattle.kdl_query.specs.Internal.Turns.{Keeps, unkept}
use Rattle.kdl_query.specs.Internal.Visits.{IsOver, Passes, steps_of, walk_due}
use Rattle.kdl_query.proofs.walk.Walk.visit.Given as goal

abbrev pub invariant-loop-level : goal.invariant-loop-level
invariant-loop-level l = record {
  due : Passes (walk_due l.fn.self) (walk_due l.self);
  over : (d : KdlDocument) → IsOver d l.fn.self → IsOver d l.self;
  kept : (p : Path) → Keeps p l.fn.self → Keeps p l.self;
  unkept : unkept l.self ≤ unkept l.fn.self;
  counted : raise l.self.steps (steps_of (walk_due l.self)) ≡ raise l.fn.self.steps (steps_of (walk_due l.fn.self));
}

abbrev pub decreases-loop-level : goal.decreases-loop-level
decreases-loop-level l = length l.self.levels.items
