use Rattle.kdl.proofs.Common.{rules, arith, ap, ◌∙◌, ◌+◌, ◌≤◌, ◌≡◌, count_nodes, count_option}
use Rattle.kdl.specs.declared.node.KdlNode.{out-KdlNode}
use Rattle.kdl.proofs.NodeCounts.{left, goes_down, count_doc_out}
use Rattle.kdl.proofs.drop.dismantle.Goals as goal
use Rattle.kdl.proofs.drop.dismantle.Goals.{then-is_empty+in-Some, else-is_empty+in_default-exchange_last}

pub loop-up-smaller : goal.loop-up-smaller
loop-up-smaller c =
    let l = c.loop-up in
    let n = c.in-Some-pop.node in
    let at : count_nodes c.if-is_empty.nodes.items ≤ count_nodes l.nodes.items + count_option l.up =
    elim c.if-is_empty.branch [
      | then-is_empty+in-Some w ↦
          let p = w.in-Some.parent in
          omega (arith, ap (λ v. count_nodes v.items) (w.nodes-is ∙ w.replace.ensures.after ∙ w.into_nodes.ensures), ap count_option w.in-Some.is, count_doc_out p)
      | else-is_empty+in_default-exchange_last w ↦ omega (arith, ap (λ v. count_nodes v.items) w.nodes-is, w.exchange_last.ensures.kept)
    ] in
    let gone : count_nodes c.if-is_empty.nodes.items ≡ count_nodes c.pop.new.self.items + (1 + count_option (out-KdlNode n).children) =
    left c.if-is_empty.nodes.items c.pop.new.self.items n (search rules) in
    let has : count_option c.into_children-up.result ≡ count_option (out-KdlNode n).children = ap count_option c.into_children-up.ensures in
    let same : count_nodes c.give_back-dropped.new.nodes.items ≡ count_nodes c.pop.new.self.items = ap count_nodes c.give_back-dropped.ensures in
    goes_down (count_nodes l.nodes.items + count_option l.up) (count_nodes l.nodes.items) (count_nodes c.give_back-dropped.new.nodes.items + count_option c.into_children-up.result) (count_nodes c.give_back-dropped.new.nodes.items)
    (omega (arith, at, gone, has, same)) (omega arith)
