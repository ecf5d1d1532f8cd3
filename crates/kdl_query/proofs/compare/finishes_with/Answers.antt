use Rattle.kdl_query.proofs.Texts.{finishes}
use Rattle.kdl_query.proofs.compare.finishes_with.Goals as goal

pub returns : goal.returns
returns c = finishes c.ends_with.result c.args.back.now c.args.text.now c.utf8.text c.utf8.back c.ends_with.ensures.cases
