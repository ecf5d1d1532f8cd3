use Rattle.std.proofs.Common.{length}
use Rattle.kdl_text.specs.Internal.Reading.{Moves}
use Rattle.kdl_query.proofs.Selecting.{StepsSoFar}
use Rattle.kdl_query.proofs.parse.selectors.read_steps.Given as goal

abbrev pub invariant-steps : goal.invariant-steps
invariant-steps l = record {
  steps : StepsSoFar l.fn.cursor.rest l.cursor.rest l.steps.items;
  moves : Moves l.fn.cursor l.cursor;
}

abbrev pub decreases-steps : goal.decreases-steps
decreases-steps l = length l.cursor.rest
