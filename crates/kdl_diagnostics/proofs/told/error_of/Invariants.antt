use Rattle.std.proofs.Common.{◌≡◌, length}
use Rattle.std.specs.List.{All}
use Rattle.kdl_text.specs.Failures.{IsToldOf}
use Rattle.kdl_diagnostics.proofs.told.error_of.Given as goal

abbrev pub invariant-loop-fault : goal.invariant-loop-fault
invariant-loop-fault l = record {
  count : length l.diagnostics.items ≡ l.fault-index;
  each : All (IsToldOf l.text) l.diagnostics.items;
}
