use Rattle.std.proofs.Common.{◌∙◌}
use Rattle.cli_world.proofs.Acting.{memory_is}
use Rattle.cli.proofs.ReportSteps.{does_report}
use Rattle.cli.proofs.report.report_faults.Goals as goal

pub returns-in-Ok : goal.returns-in-Ok
returns-in-Ok g c = does_report c.args.style c.args.name.now c.args.text.now _ c.args.error.now _ _ _ (c.deref.ensures ∙ c.in-Ok.ensures) c.report.ensures

pub returns-in-Err : goal.returns-in-Err
returns-in-Err g c = memory_is _ _ _ _ _ c.report_memory.ensures.reports c.report_memory.ensures.failed
