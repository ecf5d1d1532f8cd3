use Rattle.kdl.proofs.Putting.Retained.{retained_reads}
use Rattle.kdl.proofs.document.KdlDocument.retain_nodes.Goals as goal

pub returns-clause-reads : goal.returns-clause-reads
returns-clause-reads g c = retained_reads _ c.args.keep c.args.self.now c.retain.new.self c.retain.ensures.filtered
