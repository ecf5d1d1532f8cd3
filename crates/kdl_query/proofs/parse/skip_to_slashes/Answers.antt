use Rattle.kdl_text.proofs.Looking.MovesJoin.{moves_one, moves_stayed, moves_then}
use Rattle.kdl_query.proofs.parse.skip_to_slashes.Goals as goal

pub returns-then-looks_two : goal.returns-then-looks_two
returns-then-looks_two c = moves_then (moves_one c.if-eat.ensures) (moves_then c.skip_ws.ensures.moves (moves_stayed c.looks_two.ensures.stayed))
