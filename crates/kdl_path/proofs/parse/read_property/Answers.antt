use Rattle.kdl_text.proofs.Looking.MovesJoin.{moves_then}
use Rattle.kdl_path.specs.PathText.{target_says}
use Rattle.kdl_path.proofs.PathReads.{property_is, no_property_end, passed_on}
use Rattle.kdl_path.proofs.parse.read_property.Goals as goal

pub returns-in_err-expect_end : goal.returns-in_err-expect_end
returns-in_err-expect_end c = passed_on target_says _ _ _ _ c.from_residual-in_err-expect_end.ensures.1 c.in_err-expect_end.ensures c.read_name.ensures.moves (moves_then c.read_name.ensures.moves c.expect_end.ensures.moves) (no_property_end _ _ _ c.in_ok-name.ensures.returns)

pub returns : goal.returns
returns c = record { returns = property_is _ _ _ _ c.in_ok-name.ensures.returns c.in_ok-expect_end.ensures.returns; moves = moves_then c.read_name.ensures.moves c.expect_end.ensures.moves }
