-- A document with one more node.
use Rattle.kdl_json.proofs.Built.{says_last}
use Rattle.kdl_json.proofs.Plain.{plain_put}
use Rattle.kdl_json.proofs.build.appended.Goals as goal

pub returns-in-Ok-clause-plain : goal.returns-in-Ok-clause-plain
returns-in-Ok-clause-plain c = λ h k. plain_put _ _ _ _ c.in-Ok.ensures.nodes h k

pub returns-in-Ok-clause-data : goal.returns-in-Ok-clause-data
returns-in-Ok-clause-data c = says_last _ _ _ c.in-Ok.ensures.data
