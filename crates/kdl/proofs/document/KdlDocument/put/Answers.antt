use Rattle.kdl.proofs.Putting.Exact.{is_put, put_after_exactly, put_first_exactly}
use Rattle.kdl.proofs.Common.{arith, on_ok_weaker}
use Rattle.kdl.specs.Internal.Ends.{is_text}
use Rattle.kdl.proofs.Putting.DocumentReads.{put_after_reads, put_first_reads}
use Rattle.kdl.proofs.document.KdlDocument.put.Goals as goal

pub returns-in-Some-clause-reads : goal.returns-in-Some-clause-reads
returns-in-Some-clause-reads c =
    on_ok_weaker c.put_after.result
    (put_after_reads (is_text c.args.end) c.in-Some.last c.args.index c.args.self.now c.put_after.new.self c.rest_at.result c.args.node c.in-Ok.own (omega (arith, c.in-Some.ensures)) c.rest_at.ensures c.in-Ok.ensures.reads)
    c.put_after.ensures.put

pub returns-in-None-clause-reads : goal.returns-in-None-clause-reads
returns-in-None-clause-reads c =
    on_ok_weaker c.put_first.result
    (put_first_reads (is_text c.args.end) c.args.index c.args.self.now c.put_first.new.self c.rest_at.result c.args.node c.in-Ok.own (omega (arith, c.in-None.ensures)) c.rest_at.ensures c.in-Ok.ensures.reads)
    c.put_first.ensures.put

pub returns-in-Some-clause-exact : goal.returns-in-Some-clause-exact
returns-in-Some-clause-exact c =
    on_ok_weaker c.put_after.result
    (put_after_exactly (is_text c.args.end) c.in-Some.last c.args.index c.args.node c.in-Ok.own c.args.self.now c.put_after.new.self c.rest_at.result (omega (arith, c.in-Some.ensures)) c.rest_at.ensures c.in-Ok.ensures.exact)
    c.put_after.ensures.put

pub returns-in-None-clause-exact : goal.returns-in-None-clause-exact
returns-in-None-clause-exact c =
    on_ok_weaker c.put_first.result
    (put_first_exactly (is_text c.args.end) c.args.index c.args.node c.in-Ok.own c.args.self.now c.put_first.new.self c.rest_at.result (omega (arith, c.in-None.ensures)) c.rest_at.ensures c.in-Ok.ensures.exact)
    c.put_first.ensures.put

pub returns-in-Some-clause-nodes : goal.returns-in-Some-clause-nodes
returns-in-Some-clause-nodes c = on_ok_weaker c.put_after.result (is_put (is_text c.args.end) c.args.index c.args.node c.args.self.now c.put_after.new.self) (returns-in-Some-clause-exact c)

pub returns-in-None-clause-nodes : goal.returns-in-None-clause-nodes
returns-in-None-clause-nodes c = on_ok_weaker c.put_first.result (is_put (is_text c.args.end) c.args.index c.args.node c.args.self.now c.put_first.new.self) (returns-in-None-clause-exact c)
