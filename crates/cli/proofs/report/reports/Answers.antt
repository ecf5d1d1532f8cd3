use Rattle.cli.proofs.report.reports.Goals as goal

pub loop-fault-init : goal.loop-fault-init
loop-fault-init c = c.new-out.ensures.bytes
