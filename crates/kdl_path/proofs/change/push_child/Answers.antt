use Rattle.kdl_path.proofs.Changes.{on_ok}
use Rattle.kdl_path.proofs.Inserts.{child_pushed}
use Rattle.kdl_path.proofs.change.push_child.Goals as goal

pub returns-in-Ok : goal.returns-in-Ok
returns-in-Ok c = on_ok c.put_child.result (λ h. child_pushed c.args.child c.args.node.now c.make_room.new.node c.put_child.new.node c.in-Ok.ensures h c.put_child.ensures.reads) c.put_child.ensures.put
