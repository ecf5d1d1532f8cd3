use Rattle.std.proofs.Common.{◌∙◌}
use Rattle.kdl_query.proofs.Texts.{texts_compared, texts_differ}
use Rattle.kdl_query.proofs.compare.is_text.Goals as goal

pub returns-then-text-other : goal.returns-then-text-other
returns-then-text-other c = c.eq.ensures ∙ texts_compared c.args.text.now c.args.other.now c.utf8.text c.utf8.other

pub returns-else-text-other : goal.returns-else-text-other
returns-else-text-other c = texts_differ c.args.text.now c.args.other.now c.utf8.text c.utf8.other c.if-text-other.false
