use Rattle.std.proofs.Common.{◌≡◌, ◌++◌, map, length}
use Rattle.kdl_query.specs.Internal.Parts.{part_says, step_parts}
use Rattle.kdl_query.proofs.part.push_steps.Given as goal

abbrev pub invariant-loop-step : goal.invariant-loop-step
invariant-loop-step l = map part_says l.parts.items ++ step_parts l.rest ≡ map part_says l.fn.parts.items ++ step_parts l.steps

abbrev pub decreases-loop-step : goal.decreases-loop-step
decreases-loop-step l = length l.rest
