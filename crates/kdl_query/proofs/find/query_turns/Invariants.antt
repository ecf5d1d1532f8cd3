use Rattle.std.proofs.Common.{◌+◌, ◌≤◌, [], length}
use Rattle.std.specs.List.{fold}
use Rattle.kdl.specs.Tree.{document_says}
use Rattle.kdl_query.specs.Counts.{node_count}
use Rattle.kdl_query.specs.Tree.{query_says}
use Rattle.kdl_query.specs.Turns.{paths_from, turned}
use Rattle.kdl_query.specs.Internal.Turns.{Keeps, unkept}
use Rattle.kdl_query.specs.Internal.Visits.{walk_due}
use Rattle.kdl_query.proofs.Turning.{Finds, index_count}
use Rattle.kdl_query.proofs.find.query_turns.Given as goal

abbrev pub invariant-loop-walk : goal.invariant-loop-walk
invariant-loop-walk l = record {
  found : Finds (document_says l.document) (query_says l.query) (paths_from [] l.turns.items) (walk_due l.walk);
  kept : Keeps (fold turned [] l.turns.items) l.walk;
  short : index_count l.turns.items + unkept l.walk + length (walk_due l.walk) ≤ node_count (document_says l.document);
}

abbrev pub decreases-loop-walk : goal.decreases-loop-walk
decreases-loop-walk l = length (walk_due l.walk)
