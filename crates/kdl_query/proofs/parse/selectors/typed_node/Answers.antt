use Rattle.kdl_text.proofs.Looking.MovesJoin.{moves_then}
use Rattle.kdl_query.specs.Tree.{node_test_says}
use Rattle.kdl_query.proofs.Reading.{passed_on}
use Rattle.kdl_query.proofs.Noding.{node_typed, no_node_type, no_node_name, no_node_tests}
use Rattle.kdl_query.proofs.parse.selectors.typed_node.Goals as goal

pub returns-in_err-node_type : goal.returns-in_err-node_type
returns-in_err-node_type c = passed_on node_test_says _ _ _ _ c.from_residual.ensures.1 c.in_err-node_type.ensures c.read_type.ensures.moves (no_node_type _)

pub returns-in_err-name : goal.returns-in_err-name
returns-in_err-name c = passed_on node_test_says _ _ _ _ c.from_residual-in_err-name.ensures.1 c.in_err-name.ensures (moves_then c.read_type.ensures.moves c.name_after_type.ensures.moves) (no_node_name _ _ _ c.in_ok-node_type.ensures.returns)

pub returns-in_err-tests : goal.returns-in_err-tests
returns-in_err-tests c = passed_on node_test_says _ _ _ _ c.from_residual-in_err-tests.ensures.1 c.in_err-tests.ensures (moves_then c.read_type.ensures.moves (moves_then c.name_after_type.ensures.moves c.read_tests.ensures.moves)) (no_node_tests _ _ _ _ _ c.in_ok-node_type.ensures.returns c.in_ok-name.ensures.returns)

pub returns : goal.returns
returns c = record {
  returns = node_typed _ _ _ _ _ _ _ c.in_ok-node_type.ensures.returns c.in_ok-name.ensures.returns c.in_ok-tests.ensures.returns;
  moves = moves_then c.read_type.ensures.moves (moves_then c.name_after_type.ensures.moves c.read_tests.ensures.moves);
}
