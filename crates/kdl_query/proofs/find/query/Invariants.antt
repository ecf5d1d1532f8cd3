use Rattle.std.proofs.Common.{◌≡◌, length}
use Rattle.kdl.specs.Tree.{document_says}
use Rattle.kdl_query.specs.Tree.{query_says}
use Rattle.kdl_query.specs.Internal.Visits.{all_visits, chosen, walk_due}
use Rattle.kdl_query.proofs.find.query.Given as goal

abbrev pub invariant-loop-walk : goal.invariant-loop-walk
invariant-loop-walk l = chosen (walk_due l.walk) ≡ chosen (all_visits (query_says l.query) (document_says l.document))

abbrev pub decreases-loop-walk : goal.decreases-loop-walk
decreases-loop-walk l = length (walk_due l.walk)
