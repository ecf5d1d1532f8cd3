use Rattle.kdl.proofs.ReadingBack.{retain_reads}
use Rattle.kdl.proofs.node.KdlNode.retain.Goals as goal

pub returns-clause-reads : goal.returns-clause-reads
returns-clause-reads g c = retain_reads _ c.args.keep c.args.self.now c.retain.new.self c.retain.ensures.filtered
