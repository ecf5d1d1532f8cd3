use Rattle.std.proofs.Common.{List, ℕ, All, map, take}
use Rattle.kdl.specs.Words.{IsToldOf}
use Rattle.c_calls.specs.Listed.{AreReportsListed, fault_of}
use Rattle.c_calls.specs.Reports.{AreReported}
use Rattle.c_calls.proofs.reports.put_reports.Given as goal

-- the faults so far have their reports, and are written
abbrev pub invariant-loop-at : goal.invariant-loop-at
invariant-loop-at l = record {
  told : (text : List ℕ) → All (IsToldOf text) l.found → AreReported text l.out l.at l.strings l.used;
  listed : AreReportsListed (map fault_of (take l.at l.found)) l.fn.out l.out l.at l.fn.strings l.strings l.used;
}
