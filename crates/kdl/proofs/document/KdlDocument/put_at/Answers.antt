use Rattle.kdl.proofs.Common.{sym}
use Rattle.kdl.proofs.Putting.Puts.{put_at}
use Rattle.kdl.proofs.document.KdlDocument.put_at.Goals as goal

pub returns-in-Ok-clause-nodes : goal.returns-in-Ok-clause-nodes
returns-in-Ok-clause-nodes c =
    put_at c.args.self.now c.insert.new.self c.args.index c.args.node c.index_mut.result.now c.end.new.self c.args.own c.requires c.in-Ok.ensures.items (sym c.index_mut.ensures.value) c.end.ensures
