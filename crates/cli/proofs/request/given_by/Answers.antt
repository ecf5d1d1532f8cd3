use Rattle.cli.proofs.RequestSteps.{is_bad, is_lost}
use Rattle.cli.proofs.request.given_by.Goals as goal

pub returns-in-Err-NotUtf8-clause-unsettled : goal.returns-in-Err-NotUtf8-clause-unsettled
returns-in-Err-NotUtf8-clause-unsettled g c =
    is_bad c.args.style c.args.name.now _ _ _ c.in-Err-NotUtf8.field-0 c.in-Err-NotUtf8.bytes c.deref-in-Err-NotUtf8.result.now c.report_not_utf8-tally.result c.settings_status.result c.in-Err-NotUtf8.field-0-is c.in-Err-NotUtf8.ensures.unread (cc)
    c.report_not_utf8-tally.ensures c.settings_status.ensures

pub returns-in-Err-Lost-clause-unsettled : goal.returns-in-Err-Lost-clause-unsettled
returns-in-Err-Lost-clause-unsettled g c = is_lost c.args.style c.args.name.now _ _ c.in-Err-Lost.field-0 c.in-Err-Lost.field-0-is c.in-Err-Lost.ensures.unread
