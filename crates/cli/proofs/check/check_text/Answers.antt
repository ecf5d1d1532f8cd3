use Rattle.cli_world.proofs.Acting.{memory_is}
use Rattle.cli.specs.Checks.{Checks}
use Rattle.cli.proofs.CheckSteps.{faulty_checked, sound_checked}
use Rattle.cli.proofs.ReportSteps.{is_faulty}
use Rattle.cli.proofs.check.check_text.Goals as goal

pub returns-in-Ok : goal.returns-in-Ok
returns-in-Ok g c = sound_checked c.args.style c.args.name.now c.args.text.now (g.W.World.seen c.args.world.now) c.plain.result c.in-Ok.ensures.found c.plain.ensures

pub returns-in-Err-Syntax : goal.returns-in-Err-Syntax
returns-in-Err-Syntax g c = faulty_checked c.args.style c.args.name.now c.args.text.now c.in-Err-Syntax.error (g.W.World.seen c.args.world.now) (g.W.World.seen c.print_faults.new.world) c.print_faults.result
    (is_faulty c.args.text.now c.check.result c.in-Err-Syntax.field-0 c.in-Err-Syntax.error c.in-Err-Syntax.is c.in-Err-Syntax.field-0-is c.check.ensures.refused c.check.ensures.told) c.print_faults.ensures

pub returns-in-Err-Memory : goal.returns-in-Err-Memory
returns-in-Err-Memory g c = memory_is (Checks c.args.style c.args.name.now c.args.text.now) c.args.name.now (g.W.World.seen c.args.world.now) (g.W.World.seen c.report_memory.new.world) c.report_memory.result
    c.report_memory.ensures.reports c.report_memory.ensures.failed
