use Rattle.std.proofs.Common.{rules, ◌≡◌, ◌++◌, ◌∷◌, [], arith, length, ap}
use Rattle.kdl.specs.Words.{nodes_of}
use Rattle.kdl_path.proofs.Cursors.{moved_then, one_less, popped}
use Rattle.kdl_path.proofs.cursor.block.Block.part.Goals as goal

pub loop-self-preserved : goal.loop-self-preserved
loop-self-preserved c =
    let old = c.loop-self.self in
    let n = c.in-Some.node in
    let nodes : nodes_of old.document ≡ nodes_of c.pop_node.new.document ++ n ∷ [] = search rules in
    let pushed : c.push.new.self.items ≡ old.after.items ++ n ∷ [] = search rules in
    let less = one_less (nodes_of old.document) (nodes_of c.pop_node.new.document) n nodes in
    let len = ap length c.nodes.ensures.value in
    let test = c.loop-self-test.true in
    record {
      moved = moved_then c.args.self.now old _ c.loop-self.invariant.moved (popped old _ n nodes c.pop_node.ensures.rest pushed);
      there = omega (arith, less, len, test);
    }
