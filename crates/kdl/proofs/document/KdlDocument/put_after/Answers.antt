use Rattle.kdl.proofs.Common.{sym, end_with}
use Rattle.kdl.proofs.Putting.Puts.{after_put}
use Rattle.kdl.proofs.document.KdlDocument.put_after.Goals as goal

pub returns-clause-put : goal.returns-clause-put
returns-clause-put c =
    after_put c.args.self.now c.put_at.new.self c.args.last (end_with c.args.own c.args.node) c.index.result.now c.index_mut.result.now c.end.new.self c.in-Ok.before c.requires (sym c.index.ensures)
    c.in-Ok.ensures.exact c.in-Ok.ensures.reads c.in_ok-put_at.ensures.nodes c.in_ok-put_at.ensures.rest (sym c.index_mut.ensures.value) c.end.ensures
