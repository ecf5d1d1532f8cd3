use Rattle.std.proofs.Common.{length, reverse}
use Rattle.kdl.specs.Words.{document_tree}
use Rattle.kdl_query.specs.Turns.{paths_from}
use Rattle.kdl_path.specs.Internal.Cursor.{path_of, whole}
use Rattle.kdl_path.specs.Internal.OnEach.{paths_back}
use Rattle.kdl_path.proofs.Selected.{IsRemovedSo}
use Rattle.kdl_path.proofs.each.remove_at_paths.Given as goal

-- what the target names is removed at the paths from which the turns lead back
abbrev pub invariant-loop-turn : goal.invariant-loop-turn
invariant-loop-turn l = IsRemovedSo (paths_back l.fn.turns.items) (reverse (paths_from (path_of l.cursor) (reverse l.turns.items))) l.target (document_tree l.fn.document) (whole l.cursor)

abbrev pub decreases-loop-turn : goal.decreases-loop-turn
decreases-loop-turn l = length l.turns.items
