use Rattle.kdl_grammar.proofs.GoingOn.{dead_at_token}
use Rattle.kdl_grammar.proofs.laws.going_on.dead_at_token.Goals as goal

pub returns : goal.returns
returns c = dead_at_token
