use Rattle.std.proofs.Common.{◌≤◌, map, take}
use Rattle.cli.proofs.CheckSteps.{Checked}
use Rattle.cli.proofs.check.check_files.Given as goal

abbrev pub invariant-loop-name : goal.invariant-loop-name
invariant-loop-name g l = record {
  checked : Checked l.style (map (λ n. n.now) (take l.name-index l.names)) (g.W.World.seen l.initial.world) (g.W.World.seen l.world) l.status l.totals;
  few : l.totals.files ≤ l.name-index;
}
