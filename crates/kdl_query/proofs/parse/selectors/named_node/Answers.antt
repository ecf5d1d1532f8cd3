use Rattle.kdl_text.proofs.Looking.MovesJoin.{moves_then}
use Rattle.kdl_query.specs.Tree.{node_test_says}
use Rattle.kdl_query.specs.QueryText.{IsNode}
use Rattle.kdl_query.proofs.Reading.{passed_on}
use Rattle.kdl_query.proofs.Noding.{no_named_name, no_named_tests}
use Rattle.kdl_query.proofs.parse.selectors.named_node.Goals as goal

pub returns-in_err-name : goal.returns-in_err-name
returns-in_err-name c = passed_on node_test_says _ _ _ _ c.from_residual.ensures.1 c.in_err-name.ensures c.read_name.ensures.moves (no_named_name _ c.requires.left c.requires.bracket)

pub returns-in_err-tests : goal.returns-in_err-tests
returns-in_err-tests c = passed_on node_test_says _ _ _ _ c.from_residual-in_err-tests.ensures.1 c.in_err-tests.ensures (moves_then c.read_name.ensures.moves c.read_tests.ensures.moves) (no_named_tests _ _ _ c.requires.left c.requires.bracket c.in_ok-name.ensures.returns)

pub returns : goal.returns
returns c = record { returns = IsNode.named c.in_ok-name.ensures.returns c.in_ok-tests.ensures.returns; moves = moves_then c.read_name.ensures.moves c.read_tests.ensures.moves }
