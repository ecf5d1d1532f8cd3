use Rattle.std.proofs.Common.{List, ap, inl, inr, string_bytes, ℕ}
use Rattle.cli_world.proofs.Acting.{Does-map, does_this, memory_is}
use Rattle.cli_world.specs.Acts.Effect.{prints}
use Rattle.cli_world.specs.declared.status.Status.TheVariants.{Done}
use Rattle.cli.specs.Reports.{ReportsError}
use Rattle.cli.specs.Searches.{Searches}
use Rattle.cli.proofs.ReportSteps.{is_faulty}
use Rattle.cli.proofs.query.search_text.Goals as goal

pub returns-in-Ok : goal.returns-in-Ok
returns-in-Ok g c =
    let same = ap (λ (bytes : List ℕ). prints bytes (record { status = Done; count = c.in-Ok.count })) c.deref.ensures in
    does_this (Searches c.args.search.now c.args.name.now c.args.text.now) c.args.name.now _ _ _ c.print.result (inl (string_bytes c.in-Ok.out, c.in-Ok.count, c.in-Ok.ensures.shows, same)) c.print.ensures

pub returns-in-Err-Syntax : goal.returns-in-Err-Syntax
returns-in-Err-Syntax g c =
    let faulty = is_faulty c.args.text.now _ c.in-Err-Syntax.field-0 c.in-Err-Syntax.error c.in-Err-Syntax.is c.in-Err-Syntax.field-0-is c.selected.ensures.refused c.selected.ensures.told in
    Does-map (ReportsError c.args.search.now.style c.args.name.now c.args.text.now c.in-Err-Syntax.error) (Searches c.args.search.now c.args.name.now c.args.text.now) (λ e h. inr (c.in-Err-Syntax.error, faulty, h)) c.args.name.now _ _
    c.report_faults.result c.report_faults.ensures

pub returns-in-Err-Memory : goal.returns-in-Err-Memory
returns-in-Err-Memory g c = memory_is (Searches c.args.search.now c.args.name.now c.args.text.now) c.args.name.now _ _ c.report_memory.result c.report_memory.ensures.reports c.report_memory.ensures.failed
