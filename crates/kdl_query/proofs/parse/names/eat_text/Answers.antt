use Rattle.kdl_query.proofs.Reading.{ate_more}
use Rattle.kdl_query.proofs.parse.names.eat_text.Goals as goal

pub bytes-preserved : goal.bytes-preserved
bytes-preserved c = ate_more _ _ _ _ _ _ _ c.bytes.invariant c.in-Some.ensures.cases.0 (rw c.from.ensures at c.if-not-eat.ensures)
