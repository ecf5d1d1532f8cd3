use Rattle.cli_world.proofs.Refuted.{nothing_not_printed, nothing_not_replaced, nothing_not_reported}
use Rattle.cli_world.proofs.laws.nothing_is_not_done.Goals as goal

pub returns-clause-prints : goal.returns-clause-prints
returns-clause-prints c = nothing_not_printed

pub returns-clause-reports : goal.returns-clause-reports
returns-clause-reports c = nothing_not_reported

pub returns-clause-replaces : goal.returns-clause-replaces
returns-clause-replaces c = nothing_not_replaced
