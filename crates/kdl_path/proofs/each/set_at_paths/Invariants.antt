use Rattle.std.proofs.Common.{length, reverse}
use Rattle.kdl.specs.Words.{document_tree, value_tree}
use Rattle.kdl_query.specs.Turns.{paths_from}
use Rattle.kdl_value.specs.Tree.{text_of}
use Rattle.kdl_path.specs.Internal.Cursor.{path_of, whole}
use Rattle.kdl_path.specs.Internal.OnEach.{paths_back}
use Rattle.kdl_path.proofs.Selected.{IsSetSo}
use Rattle.kdl_path.proofs.each.set_at_paths.Given as goal

-- the value is set at the paths from which the turns lead back
abbrev pub invariant-loop-turn : goal.invariant-loop-turn
invariant-loop-turn l =
    IsSetSo (paths_back l.fn.turns.items) (reverse (paths_from (path_of l.cursor) (reverse l.turns.items))) l.target (value_tree l.value.value) (text_of l.value.spelling) (document_tree l.fn.document) (whole l.cursor)

abbrev pub decreases-loop-turn : goal.decreases-loop-turn
decreases-loop-turn l = length l.turns.items
