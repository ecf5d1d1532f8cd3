use Rattle.kdl.specs.Words.{value_tree}
use Rattle.use_theorems.proofs.SaidAfter.{pushed_args}
use Rattle.use_theorems.proofs.reads_back.push_argument.Goals as goal

pub returns-clause-says : goal.returns-clause-says
returns-clause-says c has =
    pushed_args c.args.name.now c.args.document.now c.in-Some.node.now c.push.new.self c.new.result (value_tree c.args.value) c.utf8.name c.in-Some.ensures.value c.in-Ok.ensures.items c.in-Ok.ensures.rest c.new.ensures.tree
