use Rattle.kdl.proofs.EditLaws.{node_exchanged}
use Rattle.kdl_laws.proofs.bytes.node_exchanged.Goals as goal

pub returns : goal.returns
returns c = node_exchanged
