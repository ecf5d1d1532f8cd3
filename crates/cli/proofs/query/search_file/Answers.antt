use Rattle.cli_world.proofs.Acting.{acts_on, lost_is, refuses_bytes}
use Rattle.cli.specs.Reports.{ReportsNotUtf8}
use Rattle.cli.specs.Searches.{Searches}
use Rattle.cli.proofs.query.search_file.Goals as goal

pub returns-in-Ok : goal.returns-in-Ok
returns-in-Ok g c =
    acts_on (Searches c.args.search.now c.args.name.now) (ReportsNotUtf8 c.args.search.now.style c.args.name.now) c.args.name.now _ (g.W.World.seen c.text.new.self) (g.W.World.seen c.search_text.new.world) c.in-Ok.text _ c.search_text.result
    c.in-Ok.ensures.text c.in-Ok.ensures.seen c.deref.ensures c.search_text.ensures

pub returns-in-Err-NotUtf8 : goal.returns-in-Err-NotUtf8
returns-in-Err-NotUtf8 g c = refuses_bytes (Searches c.args.search.now c.args.name.now) (ReportsNotUtf8 c.args.search.now.style c.args.name.now) _ _ _ _ c.in-Err-NotUtf8.field-0 c.in-Err-NotUtf8.bytes c.deref-in-Err-NotUtf8.result.now c.report_not_utf8.result c.in-Err-NotUtf8.field-0-is c.in-Err-NotUtf8.ensures.unread (cc) c.report_not_utf8.ensures

pub returns-in-Err-Lost : goal.returns-in-Err-Lost
returns-in-Err-Lost g c = lost_is (Searches c.args.search.now c.args.name.now) (ReportsNotUtf8 c.args.search.now.style c.args.name.now) _ _ _ c.in-Err-Lost.field-0 c.plain.result c.in-Err-Lost.field-0-is c.in-Err-Lost.ensures.unread c.plain.ensures
