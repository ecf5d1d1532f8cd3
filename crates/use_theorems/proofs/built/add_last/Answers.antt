use Rattle.kdl.specs.Words.{node_says}
use Rattle.use_theorems.proofs.built.add_last.Goals as goal

pub returns-clause-says : goal.returns-clause-says
returns-clause-says c = c.pushed_is_said_last.ensures c.args.document.now c.push_node.new.self (node_says c.args.node) c.in-Ok.ensures.data
