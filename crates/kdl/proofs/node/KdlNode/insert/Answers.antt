use Rattle.kdl.proofs.ReadingBack.{insert_reads, under_reads}
use Rattle.kdl.proofs.node.KdlNode.insert.Goals as goal

pub returns-clause-reads : goal.returns-clause-reads
returns-clause-reads c = insert_reads c.insert.result c.args.key c.args.entry c.args.self.now c.insert.new.entries c.insert.ensures.items c.insert.ensures.refused

pub returns-clause-reads_unformed : goal.returns-clause-reads_unformed
returns-clause-reads_unformed c u =
    insert_reads c.insert.result c.args.key c.args.entry c.args.self.now c.insert.new.entries c.insert.ensures.items c.insert.ensures.refused (under_reads c.args.key c.args.entry u)
