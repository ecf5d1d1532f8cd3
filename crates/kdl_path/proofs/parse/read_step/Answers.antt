use Rattle.kdl_text.proofs.Looking.MovesJoin.{moves_one, moves_stayed, moves_then, stayed_looked}
use Rattle.kdl_path.specs.PathText.{step_says}
use Rattle.kdl_path.proofs.PathReads.{indexed_is, no_step_end, no_step_index, passed_on, plain_is}
use Rattle.kdl_path.proofs.parse.read_step.Goals as goal

pub returns-then-not-eat : goal.returns-then-not-eat
returns-then-not-eat c = record { returns = plain_is _ _ _ _ c.in_ok-name.ensures.returns c.if-not-eat.ensures.0 c.if-not-eat.ensures.1; moves = moves_then c.read_name.ensures.moves (moves_stayed (stayed_looked _ _ c.if-not-eat.ensures.1)) }

pub returns-in_err-index : goal.returns-in_err-index
returns-in_err-index c =
    let m = moves_then c.read_name.ensures.moves (moves_one c.if-not-eat.ensures) in
    passed_on step_says _ _ _ _ c.from_residual-in_err-index.ensures.1 c.in_err-index.ensures m (moves_then m c.read_index.ensures.moves) (no_step_index _ _ _ _ c.in_ok-name.ensures.returns c.if-not-eat.ensures.0)

pub returns-in_err-expect : goal.returns-in_err-expect
returns-in_err-expect c =
    let m = moves_then (moves_then c.read_name.ensures.moves (moves_one c.if-not-eat.ensures)) c.read_index.ensures.moves in
    passed_on step_says _ _ _ _ c.from_residual-in_err-expect.ensures.1 c.in_err-expect.ensures m (moves_then m c.expect.ensures.moves) (no_step_end _ _ _ _ _ _ c.in_ok-name.ensures.returns c.if-not-eat.ensures.0 c.in_ok-index.ensures.returns)

pub returns : goal.returns
returns c =
    let m = moves_then (moves_then c.read_name.ensures.moves (moves_one c.if-not-eat.ensures)) c.read_index.ensures.moves in
    record { returns = indexed_is _ _ _ _ _ _ _ c.in_ok-name.ensures.returns c.if-not-eat.ensures.0 c.in_ok-index.ensures.returns c.in_ok-expect.ensures.returns; moves = moves_then m c.expect.ensures.moves }
