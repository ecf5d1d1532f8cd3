use Rattle.cli_world.proofs.Acting.{memory_is}
use Rattle.cli.specs.Checks.{PrintsError}
use Rattle.std.proofs.Common.{◌∙◌, ap, length}
use Rattle.cli.proofs.CheckSteps.{faults_printed}
use Rattle.cli.proofs.check.print_faults.Goals as goal

pub returns-in-Ok : goal.returns-in-Ok
returns-in-Ok g c = faults_printed c.args.style c.args.name.now c.args.text.now c.deref.result.now c.args.error.now (length c.as_slice.result.now) (g.W.World.seen c.args.world.now) (g.W.World.seen c.print.new.world) c.print.result
    (c.deref.ensures ∙ c.in-Ok.ensures) (ap length c.as_slice.ensures.value) c.print.ensures

pub returns-in-Err : goal.returns-in-Err
returns-in-Err g c = memory_is (PrintsError c.args.style c.args.name.now c.args.text.now c.args.error.now) c.args.name.now (g.W.World.seen c.args.world.now) (g.W.World.seen c.report_memory.new.world) c.report_memory.result
    c.report_memory.ensures.reports c.report_memory.ensures.failed
