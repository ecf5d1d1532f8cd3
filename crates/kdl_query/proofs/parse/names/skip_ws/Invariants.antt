use Rattle.std.proofs.Common.{length}
use Rattle.kdl_text.specs.Trivia.{Ws}
use Rattle.kdl_query.proofs.Spacing.{SoFar}
use Rattle.kdl_query.proofs.parse.names.skip_ws.Given as goal

abbrev pub invariant-ws : goal.invariant-ws
invariant-ws l = SoFar Ws l.initial.cursor l.cursor

abbrev pub decreases-ws : goal.decreases-ws
decreases-ws l = length l.cursor.rest
