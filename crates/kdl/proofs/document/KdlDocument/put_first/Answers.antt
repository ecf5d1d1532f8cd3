use Rattle.kdl.proofs.Common.{option_map, text_of, end_with}
use Rattle.kdl.proofs.Putting.Exact.{first_put}
use Rattle.kdl.proofs.document.KdlDocument.put_first.Goals as goal

pub returns-clause-put : goal.returns-clause-put
returns-clause-put c =
    first_put (option_map text_of c.in-Ok.leading) (end_with c.args.own c.args.node) c.args.self.now c.put_at.new.self c.lead_with.new.self c.in-Ok.ensures
    c.in_ok-put_at.ensures.nodes c.in_ok-put_at.ensures.rest c.lead_with.ensures.nodes c.lead_with.ensures.texts c.lead_with.ensures.span
