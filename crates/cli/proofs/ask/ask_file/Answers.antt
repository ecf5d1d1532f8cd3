use Rattle.cli_world.proofs.Acting.{acts_on, lost_is, refuses_bytes}
use Rattle.cli.specs.Asks.{Asks}
use Rattle.cli.specs.Reports.{ReportsNotUtf8}
use Rattle.cli.proofs.ask.ask_file.Goals as goal

pub returns-in-Ok : goal.returns-in-Ok
returns-in-Ok g c = acts_on (Asks c.args.ask.now) (ReportsNotUtf8 c.args.ask.now.style c.args.ask.now.name.now) _ _ _ _ c.in-Ok.text _ _ c.in-Ok.ensures.text c.in-Ok.ensures.seen c.deref.ensures c.ask_text.ensures

pub returns-in-Err-NotUtf8 : goal.returns-in-Err-NotUtf8
returns-in-Err-NotUtf8 g c = refuses_bytes (Asks c.args.ask.now) (ReportsNotUtf8 c.args.ask.now.style c.args.ask.now.name.now) _ _ _ _ c.in-Err-NotUtf8.field-0 c.in-Err-NotUtf8.bytes _ c.report_not_utf8.result c.in-Err-NotUtf8.field-0-is c.in-Err-NotUtf8.ensures.unread c.deref-in-Err-NotUtf8.ensures.value c.report_not_utf8.ensures

pub returns-in-Err-Lost : goal.returns-in-Err-Lost
returns-in-Err-Lost g c = lost_is (Asks c.args.ask.now) (ReportsNotUtf8 c.args.ask.now.style c.args.ask.now.name.now) _ _ _ c.in-Err-Lost.field-0 c.plain.result c.in-Err-Lost.field-0-is c.in-Err-Lost.ensures.unread c.plain.ensures
