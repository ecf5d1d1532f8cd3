use Rattle.std.proofs.Common.{◌∙◌}
use Rattle.lsp.proofs.Growing.{next}
use Rattle.lsp.proofs.Publishing.{fault_taken}
use Rattle.lsp.proofs.faults.put_faults.Goals as goal

pub loop-fault-preserved : goal.loop-fault-preserved
loop-fault-preserved c =
    let h = c.loop-fault.invariant in
    let p = c.in_ok-put_fault.ensures in
    let w = p.written in (
      p.text ∙ h.0,
      p.encoding ∙ h.1,
      w.0 ∙ h.2,
      (_, fault_taken _ _ _ _ c.args.faults.now c.loop-fault.fault-index c.fault-item.result h.3.0 w.1.0 c.loop-fault-test.true c.fault-item.is h.1 h.0 h.3.1 w.1.1, next c.args.out.now.tokens _ _ h.3.0 w.1.0 h.3.2 w.1.2),
    )
