use Rattle.std.proofs.Common.{◌≡◌}
use Rattle.kdl_report.specs.Shown.{shown}
use Rattle.kdl_report.proofs.shown.is_shown_as_is.Given as goal

-- what was read so far is shown as it is
abbrev pub invariant-loop-c : goal.invariant-loop-c
invariant-loop-c l = shown l.yielded ≡ l.yielded
