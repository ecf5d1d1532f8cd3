use Rattle.std.proofs.Common.{None, Some, ap, refl}
use Rattle.kdl_text.specs.declared.error.KdlDiagnostic.{KdlDiagnostic}
use Rattle.kdl_text.specs.declared.span.Severity.TheVariants.{Error}
use Rattle.cli.proofs.QueryFaults.{pictured}
use Rattle.cli.proofs.query.fault.Goals as goal

pub returns : goal.returns
returns c =
    let fault : KdlDiagnostic = record { input = c.in_ok-from_str.field-0; span = c.args.error.now.span; message = Some c.in_ok-from_str-2.field-0; label = None; help = c.in_ok-owned.field-0; severity = Error } in
    pictured c.args.color c.args.text.now c.args.error.now fault _ c.render_without_hint-2.result
    (record { span = refl; message = ap Some c.in_ok-from_str-2.ensures.ok; label = refl; help = c.in_ok-owned.ensures; severity = refl })
    c.in_ok-new.ensures c.render_without_hint-2.ensures
