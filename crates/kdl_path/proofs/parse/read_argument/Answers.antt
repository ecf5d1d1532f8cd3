use Rattle.kdl_text.proofs.Looking.MovesJoin.{moves_then, stays}
use Rattle.kdl_path.specs.PathText.{target_says}
use Rattle.kdl_path.proofs.PathReads.{argument_is, no_argument, no_argument_end, passed_on}
use Rattle.kdl_path.proofs.parse.read_argument.Goals as goal

pub returns-in_err-index : goal.returns-in_err-index
returns-in_err-index c = passed_on target_says _ _ _ _ c.from_residual.ensures.1 c.in_err-index.ensures (stays _) c.read_index.ensures.moves (no_argument _)

pub returns-in_err-expect_end : goal.returns-in_err-expect_end
returns-in_err-expect_end c = passed_on target_says _ _ _ _ c.from_residual-in_err-expect_end.ensures.1 c.in_err-expect_end.ensures c.read_index.ensures.moves (moves_then c.read_index.ensures.moves c.expect_end.ensures.moves) (no_argument_end _ _ _ c.in_ok-index.ensures.returns)

pub returns : goal.returns
returns c = record { returns = argument_is _ _ _ _ c.in_ok-index.ensures.returns c.in_ok-expect_end.ensures.returns; moves = moves_then c.read_index.ensures.moves c.expect_end.ensures.moves }
