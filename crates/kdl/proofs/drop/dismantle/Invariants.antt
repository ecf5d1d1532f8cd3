use Rattle.kdl.proofs.Common.{◌+◌, ◌*◌, count_nodes, count_option}
use Rattle.kdl.proofs.drop.dismantle.Given as goal

abbrev pub decreases-loop-up : goal.decreases-loop-up
decreases-loop-up l =
    let all = count_nodes l.nodes.items + count_option l.up in
    all * all + count_nodes l.nodes.items
