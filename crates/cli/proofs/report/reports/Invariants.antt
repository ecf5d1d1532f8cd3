use Rattle.std.proofs.Common.{◌≡◌, string_bytes, take}
use Rattle.cli.specs.Reports.{fault_reports}
use Rattle.cli.proofs.report.reports.Given as goal

-- the reports of the faults so far
abbrev pub invariant-loop-fault : goal.invariant-loop-fault
invariant-loop-fault l = string_bytes l.out ≡ fault_reports l.style l.name l.text (take l.fault-index l.faults)
