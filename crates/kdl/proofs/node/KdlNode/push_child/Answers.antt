use Rattle.kdl.proofs.Putting.ChildReads.{child_reads}
use Rattle.kdl.proofs.node.KdlNode.push_child.Goals as goal

pub returns-in-Some-clause-reads : goal.returns-in-Some-clause-reads
returns-in-Some-clause-reads c = child_reads c.put.result c.args.node c.args.self.now c.in-Some.children c.put.new.self c.in-Some.is c.put.ensures.reads c.put.ensures.refused
