use Rattle.std.proofs.Common.{arith}
use Rattle.kdl_text.proofs.ManyLines.LineUnits.{spelled, prefix_long, prefix_found}
use Rattle.kdl_text.proofs.strings.dedent.after_prefix.Goals as goal

pub returns-then-line-prefix : goal.returns-then-line-prefix
returns-then-line-prefix c us s = prefix_long _ _ us _ c.as_str-text.utf8 c.utf8.prefix (spelled _ us c.as_str-text.ensures.value s) c.if-line-prefix.true

pub returns : goal.returns
returns c us s = prefix_found _ _ us _ c.as_str-text.utf8 c.utf8.prefix (spelled _ us c.as_str-text.ensures.value s) (omega (arith, c.if-line-prefix.false)) c.strip_prefix.result c.strip_prefix.ensures.cases
