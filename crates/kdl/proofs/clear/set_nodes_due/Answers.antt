use Rattle.kdl.proofs.Common.{arith, due, node_tree}
use Rattle.kdl_parts.proofs.Loops.{changed_more, changed_all}
use Rattle.kdl.proofs.clear.set_nodes_due.Goals as goal

pub loop-node-preserved : goal.loop-node-preserved
loop-node-preserved c =
    let l = c.loop-node in
    changed_more node_tree due l.node-items l.node-index c.make_due.new.self c.node-item.result _ (omega arith) c.make_due.ensures l.invariant

pub returns : goal.returns
returns c =
    let l = c.loop-node in
    changed_all node_tree due c.args.nodes.now.len l.node-index l.node-items c.deref_mut-node-items.result.now c.args.nodes.now.items c.deref_mut-node-items.ensures.value (omega arith) (omega arith) l.invariant
