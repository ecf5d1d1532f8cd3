use Rattle.std.proofs.Common.{◌≡◌, ◌++◌}
use Rattle.kdl_report.specs.Shown.{shown, text_of}
use Rattle.kdl_report.proofs.shown.put_shown.Given as goal

abbrev pub invariant-loop-c : goal.invariant-loop-c
invariant-loop-c l = text_of l.out ≡ text_of l.initial.out ++ shown l.yielded
