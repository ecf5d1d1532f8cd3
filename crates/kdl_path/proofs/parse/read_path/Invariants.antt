use Rattle.std.proofs.Common.{length, map}
use Rattle.kdl_text.specs.Internal.Reading.{Moves}
use Rattle.kdl_path.specs.Internal.PathReading.{StepsSoFar}
use Rattle.kdl_path.specs.PathText.{step_says}
use Rattle.kdl_path.proofs.parse.read_path.Given as goal

abbrev pub invariant-steps : goal.invariant-steps
invariant-steps l = record {
  steps : StepsSoFar l.fn.cursor.rest l.cursor.rest (map step_says l.steps.items);
  moves : Moves l.fn.cursor l.cursor;
}

abbrev pub decreases-steps : goal.decreases-steps
decreases-steps l = length l.cursor.rest
