use Rattle.std.proofs.Common.{rules}
use Rattle.std.proofs.lemmas.Result.{err_from_is_err_and}
use Rattle.tool.specs.Reports.{diagnostic_line}
use Rattle.watched.specs.Streams.{stream}
use Rattle.watched.proofs.WriteSteps.{stopped}
use Rattle.tool.proofs.report_error.Goals as goal

pub returns-in_err-report_diagnostic : goal.returns-in_err-report_diagnostic
returns-in_err-report_diagnostic g c =
    let known = stream g.W.Write.contents in
    let cut = stopped diagnostic_line _ c.loop-diagnostic.diagnostic-index c.diagnostic-item.result (known c.args.writer.now) (known c.loop-diagnostic.writer) (known c.report_diagnostic.new.writer) c.loop-diagnostic-test.true c.diagnostic-item.is c.loop-diagnostic.invariant.written c.in_err-report_diagnostic.ensures.0 in
    (rw (err_from_is_err_and c.from_residual.result c.from_residual.ensures.1).1 (rw (← c.deref-diagnostic-items.ensures.value) cut), search rules)
