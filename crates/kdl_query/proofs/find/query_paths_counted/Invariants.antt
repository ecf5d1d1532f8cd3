use Rattle.std.proofs.Common.{◌≡◌, ◌+◌, ◌*◌, length, map}
use Rattle.std.specs.List.{sum_by}
use Rattle.kdl.specs.Tree.{document_says}
use Rattle.kdl_text.specs.Spans.{raise}
use Rattle.kdl_query.specs.Counts.{block_count, node_count, part_count}
use Rattle.kdl_query.specs.Tree.{query_says}
use Rattle.kdl_query.specs.Internal.Visits.{steps_of, walk_due}
use Rattle.kdl_query.proofs.Turning.{Finds}
use Rattle.kdl_query.proofs.find.query_paths_counted.Given as goal

abbrev pub invariant-loop-walk : goal.invariant-loop-walk
invariant-loop-walk l = record {
  paths : Finds (document_says l.document) (query_says l.query) (map (λ p. p.items) l.found.items) (walk_due l.walk);
  counted : raise l.walk.steps (steps_of (walk_due l.walk)) ≡ raise 0 (part_count (query_says l.query) * (node_count (document_says l.document) + block_count (document_says l.document)) + sum_by (λ p. length p.items) l.found.items);
}

abbrev pub decreases-loop-walk : goal.decreases-loop-walk
decreases-loop-walk l = length (walk_due l.walk)
