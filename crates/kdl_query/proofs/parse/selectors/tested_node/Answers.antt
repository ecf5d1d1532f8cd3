use Rattle.kdl_query.specs.Tree.{node_test_says}
use Rattle.kdl_query.proofs.Reading.{passed_on}
use Rattle.kdl_query.proofs.Noding.{node_tested, no_tested}
use Rattle.kdl_query.proofs.parse.selectors.tested_node.Goals as goal

pub returns-in_err-tests : goal.returns-in_err-tests
returns-in_err-tests c = passed_on node_test_says _ _ _ _ c.from_residual.ensures.1 c.in_err-tests.ensures c.read_tests.ensures.moves (no_tested _ c.requires)

pub returns : goal.returns
returns c = record { returns = node_tested _ _ _ c.requires c.in_ok-tests.ensures.returns; moves = c.read_tests.ensures.moves }
