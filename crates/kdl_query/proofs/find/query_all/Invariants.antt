use Rattle.std.proofs.Common.{Some, length, map}
use Rattle.kdl_query.specs.Tree.{query_says}
use Rattle.kdl_query.specs.Internal.Visits.{IsOver, walk_due}
use Rattle.kdl_query.proofs.HeldWalk.{Finds}
use Rattle.kdl_query.proofs.find.query_all.Given as goal

abbrev pub invariant-loop-walk : goal.invariant-loop-walk
invariant-loop-walk l = record {
  found : Finds l.document (query_says l.query) (map (λ n. Some n.now) l.found.items) (walk_due l.walk);
  over : IsOver l.document l.walk;
}

abbrev pub decreases-loop-walk : goal.decreases-loop-walk
decreases-loop-walk l = length (walk_due l.walk)
