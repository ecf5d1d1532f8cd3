use Rattle.kdl_text.proofs.Numeric.DecimalReads.{underscore_found}
use Rattle.kdl_text.proofs.numbers.has_no_underscore.Goals as goal

pub returns : goal.returns
returns c = underscore_found c.args.text.now c.contains.result c.utf8.text c.contains.ensures.cases
