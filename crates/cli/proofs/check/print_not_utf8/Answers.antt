use Rattle.cli_world.proofs.Acting.{memory_is}
use Rattle.cli.specs.Checks.{PrintsNotUtf8}
use Rattle.cli.proofs.CheckSteps.{bad_printed}
use Rattle.cli.proofs.check.print_not_utf8.Goals as goal

pub returns-in-Ok : goal.returns-in-Ok
returns-in-Ok g c = bad_printed c.args.style c.args.name.now c.args.bytes.now _ c.in-Ok.error _ _ c.print_faults.result c.front-text.ensures c.in-Ok.ensures c.print_faults.ensures

pub returns-in-Err : goal.returns-in-Err
returns-in-Err g c = memory_is (PrintsNotUtf8 c.args.style c.args.name.now c.args.bytes.now) c.args.name.now _ _ c.report_memory.result c.report_memory.ensures.reports c.report_memory.ensures.failed
