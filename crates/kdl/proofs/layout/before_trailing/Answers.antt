use Rattle.kdl.proofs.Common.{sym}
use Rattle.kdl.proofs.LayingOut.PartsSpaced.{last_passes}
use Rattle.kdl.proofs.layout.before_trailing.Goals as goal

pub returns-in_ok-before_next-in-Some-clause-passes : goal.returns-in_ok-before_next-in-Some-clause-passes
returns-in_ok-before_next-in-Some-clause-passes c = λ b. last_passes c.args.layout.now c.args.nodes.now c.in-Some.node.now c.in_ok-before_next-in-Some.field-0 b (sym c.in-Some.ensures.value) c.in_ok-before_next-in-Some.ensures
