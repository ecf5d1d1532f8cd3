use Rattle.kdl_path.proofs.Edited.{put_in_block, put_in_document}
use Rattle.kdl_path.proofs.Removed.{emptied, nonempty}
use Rattle.kdl_path.proofs.insertion.put_node.Goals as goal

pub returns-then-is_empty-clause-put : goal.returns-then-is_empty-clause-put
returns-then-is_empty-clause-put c = λ ss leads reads r.
    let x = c.in_ok-push.ensures in
    put_in_document ss c.args.indices.now c.args.document c.push.new.document c.args.node c.in_ok-node.node leads (emptied c.is_empty.result c.args.indices.now c.is_empty.ensures c.if-is_empty.true) c.in_ok-node.ensures x.says (x.reads r (c.in_ok-node.ensures.reads _ reads))

pub returns-clause-put : goal.returns-clause-put
returns-clause-put c = λ ss leads reads r.
    put_in_block ss c.args.indices.now c.args.document c.in_ok-change_at.field-0 c.args.node c.in_ok-node.node leads (nonempty c.is_empty.result c.args.indices.now c.is_empty.ensures c.if-is_empty.false) c.in_ok-node.ensures c.in_ok-change_at.ensures reads r
