use Rattle.kdl_grammar.proofs.NodeTexts.{node_dead_at_token}
use Rattle.kdl_grammar.proofs.laws.going_on.node_dead_at_token.Goals as goal

pub returns : goal.returns
returns c = node_dead_at_token
