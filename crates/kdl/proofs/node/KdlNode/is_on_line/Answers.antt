use Rattle.kdl.proofs.Common.{rules, ◌==◌, the_lemmas}
use Rattle.kdl.proofs.LayingOut.Lines.{node_block, node_line}
use Rattle.kdl.proofs.node.KdlNode.is_on_line.Goals as goal

pub returns-then-is_some : goal.returns-then-is_some
returns-then-is_some c = node_block c.args.self.now (c.args.following == 0) (search (rules, the_lemmas))

pub returns : goal.returns
returns c = node_line c.args.self.now (c.args.following == 0) c.is_line.result (search (rules, the_lemmas)) (search (rules, the_lemmas))
