-- A node with one more entry.
use Rattle.kdl_json.proofs.Built.{says_pushed}
use Rattle.kdl_json.proofs.Plain.{plain_pushed}
use Rattle.kdl_json.proofs.build.pushed.Goals as goal

pub returns-in-Ok-clause-plain : goal.returns-in-Ok-clause-plain
returns-in-Ok-clause-plain c = λ h k. plain_pushed _ _ _ c.in-Ok.ensures.items c.in-Ok.ensures.rest h k

pub returns-in-Ok-clause-data : goal.returns-in-Ok-clause-data
returns-in-Ok-clause-data c = says_pushed _ _ _ c.in-Ok.ensures.items c.in-Ok.ensures.rest
