use Rattle.std.proofs.Common.{ℕ, List, Bor, ap, arith, map, sym}
use Rattle.std.proofs.lemmas.List.{map_more, take_all}
use Rattle.cli.proofs.CheckSteps.{all_checked, more_checked, none_checked}
use Rattle.cli.proofs.check.check_files.Goals as goal

pub loop-name-init : goal.loop-name-init
loop-name-init g c = record { checked = none_checked c.args.style (g.W.World.seen c.args.world.now); few = omega arith }

pub count-requires : goal.count-requires
count-requires g c = omega arith

pub loop-name-preserved : goal.loop-name-preserved
loop-name-preserved g c = record {
  checked = more_checked c.args.style _ _ _ (g.W.World.seen c.args.world.now) (g.W.World.seen c.loop-name.world) (g.W.World.seen c.check_file-tally.new.world) c.loop-name.status c.worst-status.result c.loop-name.totals c.count.new.self
      c.check_file-tally.result c.loop-name.invariant.checked c.check_file-tally.ensures (map_more (λ (n : Bor (List ℕ)). n.now) c.args.names.now c.loop-name.name-index _ c.loop-name-test.true) c.worst-status.ensures c.count.ensures.faults c.count.ensures.files;
  few = grind (arith);
}

pub returns : goal.returns
returns g c = all_checked c.args.style _ _ (g.W.World.seen c.args.world.now) (g.W.World.seen c.loop-name.world) (g.W.World.seen c.print_totals-end.new.world) c.loop-name.status c.worst.result c.loop-name.totals c.print_totals-end.result
    c.loop-name.invariant.checked (ap (map (λ (n : Bor (List ℕ)). n.now)) (sym (take_all c.loop-name.name-index c.args.names.now c.loop-name-test.false))) c.print_totals-end.ensures c.worst.ensures
