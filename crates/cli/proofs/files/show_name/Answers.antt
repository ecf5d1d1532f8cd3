use Rattle.std.proofs.Common.{◌∙◌}
use Rattle.cli_world.proofs.Acting.{memory_is}
use Rattle.cli_world.specs.declared.status.Status.TheVariants.{Found}
use Rattle.cli.proofs.FormatSteps.{does_print}
use Rattle.cli.proofs.files.show_name.Goals as goal

pub returns-in-Ok : goal.returns-in-Ok
returns-in-Ok g c =
    does_print _ _ _ _ _ Found _ _ (c.deref.ensures ∙ c.in-Ok.ensures) c.plain.ensures c.print.ensures

pub returns-in-Err : goal.returns-in-Err
returns-in-Err g c = memory_is _ _ _ _ _ c.report_memory.ensures.reports c.report_memory.ensures.failed
