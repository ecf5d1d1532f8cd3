use Rattle.kdl.proofs.Common.{on_ok_weaker}
use Rattle.kdl.proofs.Putting.Puts.{put_prints, put_says}
use Rattle.kdl.proofs.document.KdlDocument.insert_node.Goals as goal

pub returns-clause-prints : goal.returns-clause-prints
returns-clause-prints c = on_ok_weaker c.put.result (put_prints c.args.index c.args.node c.args.self.now c.put.new.self) c.put.ensures.nodes

pub returns-clause-data : goal.returns-clause-data
returns-clause-data c = on_ok_weaker c.put.result (put_says c.args.index c.args.node c.args.self.now c.put.new.self) c.put.ensures.nodes
