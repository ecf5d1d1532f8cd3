use Rattle.kdl_text.proofs.Looking.MovesJoin.{moves_then}
use Rattle.kdl_query.specs.Tree.{first_says}
use Rattle.kdl_query.proofs.Reading.{passed_on}
use Rattle.kdl_query.proofs.Noding.{no_document, document_at, node_at}
use Rattle.kdl_query.proofs.parse.selectors.read_first.Goals as goal

pub returns-in_err-close : goal.returns-in_err-close
returns-in_err-close c = passed_on first_says _ _ _ _ c.from_residual.ensures.1 c.in_err-close.ensures (moves_then c.if-eat_text.ensures.moves c.close.ensures.moves) (no_document _ _ c.if-eat_text.ensures.ate)

pub returns-then-eat_text : goal.returns-then-eat_text
returns-then-eat_text c = record { returns = document_at _ _ _ c.if-eat_text.ensures.ate c.in_ok-close.ensures.returns; moves = moves_then c.if-eat_text.ensures.moves c.close.ensures.moves }

pub returns : goal.returns
returns c = record { returns = node_at _ _ _ _ c.if-eat_text.ensures.ate.1 c.in_ok-read_node.ensures.returns; moves = moves_then c.if-eat_text.ensures.moves c.read_node.ensures.moves }
