use Rattle.kdl_layout.proofs.Common.{◌≡◌, ◌++◌, map, formats_in_line, node_format_tree}
use Rattle.kdl_layout.proofs.one_line.formats_in_line.Given as goal

abbrev pub invariant-loop-left : goal.invariant-loop-left
invariant-loop-left l = map node_format_tree l.formats.items ++ formats_in_line l.left ≡ formats_in_line l.count

abbrev pub decreases-loop-left : goal.decreases-loop-left
decreases-loop-left l = l.left
