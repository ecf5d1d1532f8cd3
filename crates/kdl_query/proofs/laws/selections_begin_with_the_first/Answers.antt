use Rattle.kdl_query.proofs.Firsts.{first_selected, none_selected}
use Rattle.kdl_query.proofs.laws.selections_begin_with_the_first.Goals as goal

pub returns-clause-first : goal.returns-clause-first
returns-clause-first c = first_selected

pub returns-clause-none : goal.returns-clause-none
returns-clause-none c = none_selected
