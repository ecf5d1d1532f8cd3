use Rattle.kdl.proofs.EditLaws.{entry_exchanged}
use Rattle.kdl_laws.proofs.bytes.entry_exchanged.Goals as goal

pub returns : goal.returns
returns c = entry_exchanged
