use Rattle.kdl_text.proofs.Looking.MovesJoin.{moves_one}
use Rattle.kdl_query.specs.Tree.{node_test_says}
use Rattle.kdl_query.proofs.Noding.{node_on}
use Rattle.kdl_query.proofs.parse.selectors.read_node.Goals as goal

pub returns-then-eat : goal.returns-then-eat
returns-then-eat c = node_on node_test_says _ _ _ _ c.if-eat.ensures.0 (moves_one c.if-eat.ensures) c.typed_node.ensures
