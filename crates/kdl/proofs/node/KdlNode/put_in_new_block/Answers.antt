use Rattle.kdl.proofs.Putting.Exact.{child_put, new_block_exactly}
use Rattle.kdl.proofs.Common.{option_map, refl, text_of}
use Rattle.kdl.proofs.Putting.ChildReads.{new_child_reads}
use Rattle.kdl.proofs.node.KdlNode.put_in_new_block.Goals as goal

pub returns-clause-reads : goal.returns-clause-reads
returns-clause-reads c =
    new_child_reads c.args.node c.args.self.now _ c.begin_block.new.self c.new-block.result c.put.new.self (option_map text_of c.in-Ok.before) c.requires c.new-block.ensures.made c.in_ok-put.ensures.reads c.in-Ok.ensures.says
    c.begin_block.ensures refl

pub returns-clause-exact : goal.returns-clause-exact
returns-clause-exact c =
    new_block_exactly 0 c.args.node c.args.self.now _ c.begin_block.new.self c.new-block.result c.put.new.self (option_map text_of c.in-Ok.before) c.requires c.new-block.ensures.made c.in_ok-put.ensures.exact
    c.in-Ok.ensures.fewest c.begin_block.ensures refl

pub returns-clause-nodes : goal.returns-clause-nodes
returns-clause-nodes c = child_put 0 c.args.node c.args.self.now _ (returns-clause-exact c)
