use Rattle.kdl_parts.proofs.Common.{arith, entry_tree, cleared}
use Rattle.kdl_parts.proofs.Loops.{changed_more}
use Rattle.kdl_parts.proofs.edit.clear_formats.Goals as goal

pub loop-entry-preserved : goal.loop-entry-preserved
loop-entry-preserved c = changed_more entry_tree cleared c.loop-entry.entry-items c.loop-entry.entry-index c.clear_format.new.self c.entry-item.result _ (omega arith) c.clear_format.ensures c.loop-entry.invariant
