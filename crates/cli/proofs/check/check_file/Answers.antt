use Rattle.cli_world.proofs.Acting.{acts_on, lost_is, refuses_bytes}
use Rattle.cli.specs.Checks.{Checks, PrintsNotUtf8}
use Rattle.cli.proofs.check.check_file.Goals as goal

pub returns-in-Ok : goal.returns-in-Ok
returns-in-Ok g c = acts_on (Checks c.args.style c.args.name.now) (PrintsNotUtf8 c.args.style c.args.name.now) c.args.name.now (g.W.World.seen c.args.world.now) (g.W.World.seen c.text.new.self) (g.W.World.seen c.check_text.new.world) c.in-Ok.text c.deref.result.now
    c.check_text.result c.in-Ok.ensures.text c.in-Ok.ensures.seen c.deref.ensures c.check_text.ensures

pub returns-in-Err-NotUtf8 : goal.returns-in-Err-NotUtf8
returns-in-Err-NotUtf8 g c = refuses_bytes (Checks c.args.style c.args.name.now) (PrintsNotUtf8 c.args.style c.args.name.now) _ _ _ _ c.in-Err-NotUtf8.field-0 c.in-Err-NotUtf8.bytes _ c.print_not_utf8.result c.in-Err-NotUtf8.field-0-is c.in-Err-NotUtf8.ensures.unread c.deref-in-Err-NotUtf8.ensures.value c.print_not_utf8.ensures

pub returns-in-Err-Lost : goal.returns-in-Err-Lost
returns-in-Err-Lost g c = lost_is (Checks c.args.style c.args.name.now) (PrintsNotUtf8 c.args.style c.args.name.now) _ _ _ c.in-Err-Lost.field-0 c.plain.result c.in-Err-Lost.field-0-is c.in-Err-Lost.ensures.unread c.plain.ensures
