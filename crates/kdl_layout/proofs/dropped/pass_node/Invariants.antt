use Rattle.kdl_layout.proofs.Common.{[], length, chars, for_node, control_view, at, NodeSlashdash}
use Rattle.kdl_layout.proofs.Dropping.TokenLoop.{Goes}
use Rattle.kdl_layout.proofs.dropped.pass_node.Given as goal

abbrev pub invariant-tokens : goal.invariant-tokens
invariant-tokens l = Goes for_node (at NodeSlashdash []) l.cursor (control_view l.control) (chars l.fn.text) l.last

abbrev pub decreases-tokens : goal.decreases-tokens
decreases-tokens l = length l.cursor.rest
