use Rattle.kdl_query.proofs.Texts.{begins}
use Rattle.kdl_query.proofs.compare.begins_with.Goals as goal

pub returns : goal.returns
returns c = begins c.starts_with.result c.args.front.now c.args.text.now c.utf8.text c.utf8.front c.starts_with.ensures.cases
