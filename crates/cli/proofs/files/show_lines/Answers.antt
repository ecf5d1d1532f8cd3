use Rattle.cli_world.proofs.Acting.{memory_is}
use Rattle.cli.proofs.FormatSteps.{does_show}
use Rattle.cli.proofs.files.show_lines.Goals as goal

pub returns-in-Ok : goal.returns-in-Ok
returns-in-Ok g c = does_show _ _ _ _ _ _ _ _ _ _ c.shown_name.ensures c.in-Ok.ensures.shows c.deref.ensures c.plain.ensures c.print.ensures

pub returns-in-Err : goal.returns-in-Err
returns-in-Err g c = memory_is _ _ _ _ _ c.report_memory.ensures.reports c.report_memory.ensures.failed
