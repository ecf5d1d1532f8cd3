use Rattle.std.proofs.Common.{◌∙◌}
use Rattle.kdl_query.proofs.Texts.{contains_so}
use Rattle.kdl_query.proofs.compare.has_text.Goals as goal

pub returns : goal.returns
returns c = c.is_some.ensures ∙ contains_so c.find.result c.args.inner.now c.args.text.now c.utf8.text c.utf8.inner c.find.ensures.cases
