use Rattle.std.proofs.Common.{length, refl}
use Rattle.kdl.specs.Words.{child_nodes}
use Rattle.use_theorems.proofs.SaidAfter.{child_said}
use Rattle.use_theorems.proofs.nodes.add_child.Goals as goal

pub returns-clause-says : goal.returns-clause-says
returns-clause-says c =
    let n = c.in-Some.node.now in
    child_said c.args.name.now c.args.document.now (length (child_nodes n)) c.args.child n c.push_child.new.self c.utf8.name c.in-Some.ensures.value refl c.in-Ok.ensures.nodes
