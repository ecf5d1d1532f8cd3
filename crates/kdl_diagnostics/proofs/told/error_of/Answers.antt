use Rattle.kdl_diagnostics.proofs.Diagnostics.{noted_at, told_count, told_more}
use Rattle.kdl_diagnostics.proofs.told.error_of.Goals as goal

pub diagnostic-requires : goal.diagnostic-requires
diagnostic-requires c = noted_at c.args.text.now _ c.args.faults.now c.loop-fault.fault-index _ c.in_ok-input.ensures.ok c.requires.noted c.loop-fault-test.true

pub loop-fault-preserved : goal.loop-fault-preserved
loop-fault-preserved c = record {
  count = told_count c.loop-fault.diagnostics.items c.push.new.self.items c.in_ok-diagnostic.field-0 c.loop-fault.fault-index c.in_ok-push.ensures.items c.loop-fault.invariant.count;
  each = told_more c.args.text.now _ c.loop-fault.diagnostics.items c.push.new.self.items c.in_ok-diagnostic.field-0 c.in_ok-input.ensures.ok c.in_ok-push.ensures.items c.loop-fault.invariant.each c.in_ok-diagnostic.ensures;
}
