use Rattle.kdl_path.proofs.PathReads.{number_found}
use Rattle.kdl_path.proofs.parse.number_of.Goals as goal

pub returns : goal.returns
returns c = rw c.ok.ensures.value (number_found _ _ c.utf8.digits c.requires c.parse.ensures.value.0)
