use Rattle.std.proofs.Common.{◌∙◌}
use Rattle.cli.proofs.RequestSteps.{is_short, is_unfit}
use Rattle.cli.proofs.request.report_unfit.Goals as goal

pub returns-in-Ok : goal.returns-in-Ok
returns-in-Ok g c has is = is_unfit c.args.style c.args.name.now c.args.text.now _ c.args.unfit.now _ _ has is c.in-Ok.ensures.memory (c.deref.ensures ∙ c.in-Ok.ensures.report) c.report.ensures

pub returns-in-Err : goal.returns-in-Err
returns-in-Err g c has is = is_short c.args.style c.args.name.now c.report_memory.result _ _ c.report_memory.ensures.reports c.report_memory.ensures.failed
