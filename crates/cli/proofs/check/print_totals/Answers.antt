use Rattle.std.proofs.Common.{◌≡◌, ◌∙◌, arith}
use Rattle.cli_world.proofs.Acting.{memory_is}
use Rattle.cli.specs.Checks.{PrintsTotals}
use Rattle.cli.proofs.CheckSteps.{as_objects, no_totals, none_faulty, some_faulty, totals_printed}
use Rattle.cli.specs.declared.report.Form.TheVariants.{Json}
use Rattle.cli.proofs.check.print_totals.Goals as goal
use Rattle.cli.proofs.check.print_totals.Goals.{then-totals-eq0-via-then-totals-eq0, then-totals-eq0-via-else-totals-eq0+then-matches, in-Json, in_default}

pub returns-then-totals-eq0 : goal.returns-then-totals-eq0
returns-then-totals-eq0 g c =
    let without = no_totals c.args.form c.args.totals.faults c.args.totals.files c.args.name.now (g.W.World.seen c.args.world.now) c.plain.result in
    elim c.then-totals-eq0.branch [
      | then-totals-eq0-via-then-totals-eq0 w ↦ without (none_faulty c.args.form c.args.totals.faults c.args.totals.files (omega arith)) c.plain.ensures
      | then-totals-eq0-via-else-totals-eq0+then-matches w ↦ elim w.match-matches.branch [
        | in-Json w' ↦ without (as_objects c.args.form c.args.totals.faults c.args.totals.files w'.in-Json.is) c.plain.ensures
        | in_default w' ↦ absurd (cc)
      ]
    ]

pub returns-in-Ok : goal.returns-in-Ok
returns-in-Ok g c =
    let not_objects : c.args.form ≡ Json → ⊥ = elim c.match-matches.branch [ in-Json w ↦ absurd (cc) | in_default w ↦ w.in_default.not-Json ] in
    totals_printed c.args.form c.args.totals.faults c.args.totals.files c.args.name.now c.deref.result.now (g.W.World.seen c.args.world.now) (g.W.World.seen c.print.new.world) c.print.result c.plain-in-Ok.result
    (some_faulty c.args.form c.args.totals.faults c.args.totals.files (omega arith) not_objects) (c.deref.ensures ∙ c.in-Ok.ensures) c.plain-in-Ok.ensures c.print.ensures

pub returns-in-Err : goal.returns-in-Err
returns-in-Err g c = memory_is (PrintsTotals c.args.form c.args.totals.faults c.args.totals.files) c.args.name.now (g.W.World.seen c.args.world.now) (g.W.World.seen c.report_memory.new.world) c.report_memory.result
    c.report_memory.ensures.reports c.report_memory.ensures.failed
