use Rattle.kdl_laws.proofs.SetInData.{property_set_in}
use Rattle.kdl_laws.proofs.said.property_set_is_said.Goals as goal

pub returns : goal.returns
returns c = property_set_in
