use Rattle.cli.proofs.ReportSteps.{short_is}
use Rattle.cli.proofs.report.report_of.Goals as goal

pub returns-in-Short : goal.returns-in-Short
returns-in-Short c = short_is _ _ _ _ _ _ c.in-Short.is c.short.ensures
