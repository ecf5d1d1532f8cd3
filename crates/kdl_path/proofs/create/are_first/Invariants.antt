use Rattle.std.proofs.Common.{◌≡◌, drop}
use Rattle.std.specs.List.{list_all}
use Rattle.kdl_path.specs.Failures.{is_first}
use Rattle.kdl_path.proofs.create.are_first.Given as goal

-- the rest of the steps decides
abbrev pub invariant-loop-step : goal.invariant-loop-step
invariant-loop-step l = list_all is_first (drop l.step-index l.steps) ≡ list_all is_first l.steps
