use Rattle.cli_words.specs.Template.{IsScript}
use Rattle.cli.proofs.RequestSteps.{is_not_shown, is_shown}
use Rattle.cli.proofs.request.show_completions.Goals as goal

pub returns-in-Ok : goal.returns-in-Ok
returns-in-Ok g c = is_shown (IsScript c.args.shell) _ _ _ _ _ c.in-Ok.ensures c.deref.ensures c.show.ensures

pub returns-in-Err : goal.returns-in-Err
returns-in-Err g c = is_not_shown (IsScript c.args.shell) _ _ _ c.report_memory.ensures.reports c.report_memory.ensures.failed
