use Rattle.std.proofs.Common.{arith}
use Rattle.cli.proofs.ReportSteps.{rest_written}
use Rattle.cli.proofs.report.push_rest.Goals as goal

pub returns : goal.returns
returns c =
    rest_written c.push_str-3.result c.args.count _ _ _ _ c.format.result.now (λ e. omega (arith, e, c.if-count-eq0.false)) c.in_ok-push_str.ensures.bytes c.in_ok-push_str-2.ensures.bytes c.format.ensures.text c.push_str-3.ensures.bytes
