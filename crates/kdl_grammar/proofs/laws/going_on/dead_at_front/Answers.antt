use Rattle.kdl_grammar.proofs.GoingOn.{dead_at_front}
use Rattle.kdl_grammar.proofs.laws.going_on.dead_at_front.Goals as goal

pub returns : goal.returns
returns c = dead_at_front
