use Rattle.kdl.proofs.Common.{rules, Some, ◌≡◌}
use Rattle.kdl.proofs.LayingOut.Lines.{none_set}
use Rattle.kdl.proofs.node.layout.set_around.Goals as goal

pub returns-in-None : goal.returns-in-None
returns-in-None c =
    let is : c.args.children.now ≡ Some c.in-Some.children = search rules in
    rw c.in-None.is (none_set c.args.children.now c.in-Some.children c.clear_format.new.self is c.clear_format.ensures)
