use Rattle.kdl.proofs.Finding.EntriesFound.{push_sets}
use Rattle.kdl.proofs.ReadingBack.{push_reads, unformed_reads}
use Rattle.kdl.proofs.node.KdlNode.push.Goals as goal

pub returns-clause-sets : goal.returns-clause-sets
returns-clause-sets c = push_sets c.push.result c.args.entry c.args.self.now c.push.new.entries c.push.ensures.items

pub returns-clause-reads : goal.returns-clause-reads
returns-clause-reads c = push_reads c.push.result c.args.entry c.args.self.now c.push.new.entries c.push.ensures.items

pub returns-clause-reads_unformed : goal.returns-clause-reads_unformed
returns-clause-reads_unformed c u = push_reads c.push.result c.args.entry c.args.self.now c.push.new.entries c.push.ensures.items (unformed_reads c.args.entry u)
