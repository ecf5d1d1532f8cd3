use Rattle.kdl_path.proofs.Made.{made_found, made_unchanged}
use Rattle.kdl_path.proofs.laws.made_value_is_found.Goals as goal

pub returns-clause-found : goal.returns-clause-found
returns-clause-found c = made_found

pub returns-clause-unchanged : goal.returns-clause-unchanged
returns-clause-unchanged c = made_unchanged
