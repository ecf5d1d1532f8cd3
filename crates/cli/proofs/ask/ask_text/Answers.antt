use Rattle.cli_world.proofs.Acting.{memory_is}
use Rattle.cli.specs.Asks.{Asks}
use Rattle.cli.proofs.Delivering.{faults_reported}
use Rattle.cli.proofs.ask.ask_text.Goals as goal

pub returns-in-Err-Memory : goal.returns-in-Err-Memory
returns-in-Err-Memory g c = memory_is (Asks c.args.ask.now c.args.text.now) _ _ _ _ c.report_memory.ensures.reports c.report_memory.ensures.failed

pub returns-in-Err-Syntax : goal.returns-in-Err-Syntax
returns-in-Err-Syntax g c = faults_reported c.args.ask.now c.args.text.now c.in-Err-Syntax.field-0 c.in-Err-Syntax.error _ _ _ c.in-Err-Syntax.field-0-is c.in-Err-Syntax.ensures c.report_faults.ensures
