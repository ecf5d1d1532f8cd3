use Rattle.std.proofs.Common.{length}
use Rattle.kdl_text.proofs.Spacing.SpaceReads.{Running}
use Rattle.kdl_text.proofs.trivia.ws_run.Given as goal

abbrev pub invariant-run : goal.invariant-run
invariant-run l = Running l.initial.cursor l.cursor

abbrev pub decreases-run : goal.decreases-run
decreases-run l = length l.cursor.rest
