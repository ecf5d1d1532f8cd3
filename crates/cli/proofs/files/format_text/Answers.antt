use Rattle.std.proofs.Common.{string_bytes}
use Rattle.cli_world.proofs.Acting.{memory_is}
use Rattle.cli.proofs.FormatSteps.{formats_delivered, formats_reported}
use Rattle.cli.proofs.ReportSteps.{is_faulty}
use Rattle.cli.proofs.files.format_text.Goals as goal

pub returns-in-Ok : goal.returns-in-Ok
returns-in-Ok g c = formats_delivered _ _ _ (string_bytes c.in-Ok.new) _ _ _ _ c.in-Ok.ensures.laid_out c.deref.ensures c.deliver.ensures

pub returns-in-Err-Syntax : goal.returns-in-Err-Syntax
returns-in-Err-Syntax g c = formats_reported _ _ _ c.in-Err-Syntax.error _ _ _ (is_faulty _ _ _ _ c.in-Err-Syntax.is c.in-Err-Syntax.field-0-is c.formatted.ensures.refused c.formatted.ensures.told) c.report_faults.ensures

pub returns-in-Err-Memory : goal.returns-in-Err-Memory
returns-in-Err-Memory g c = memory_is _ _ _ _ _ c.report_memory.ensures.reports c.report_memory.ensures.failed
