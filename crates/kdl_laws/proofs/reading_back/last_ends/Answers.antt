use Rattle.kdl_laws.proofs.PushedNodes.{last_is_end}
use Rattle.kdl_laws.proofs.reading_back.last_ends.Goals as goal

pub returns-in-Some-clause-ends : goal.returns-in-Some-clause-ends
returns-in-Some-clause-ends c h x = last_is_end c.args.document.now c.nodes.result.now c.in-Some.node.now c.nodes.ensures.value c.in-Some.ensures.value (c.ends_line.ensures.ends h) x
