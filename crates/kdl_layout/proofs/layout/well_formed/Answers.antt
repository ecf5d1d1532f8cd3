use Rattle.kdl_value.proofs.WellFormed.{other_value}
use Rattle.kdl_layout.proofs.layout.well_formed.Goals as goal

pub returns-in_default : goal.returns-in_default
returns-in_default c = other_value c.args.value.now c.in_default.not-Integer
