use Rattle.watched.proofs.Refuted.{not_given, not_given_or_cut}
use Rattle.watched.proofs.laws.nothing_is_not_given.Goals as goal

pub returns-clause-grows : goal.returns-clause-grows
returns-clause-grows c = not_given

pub returns-clause-gets : goal.returns-clause-gets
returns-clause-gets c = not_given_or_cut
