use Rattle.std.proofs.Common.{◌∙◌}
use Rattle.std.proofs.lemmas.Bool.{ne_eqb}
use Rattle.kdl_text.proofs.ManyLines.LineUnits.{spelled, blank_all, blank_not}
use Rattle.kdl_text.proofs.strings.dedent.is_blank.Goals as goal

pub returns-then-is_literal : goal.returns-then-is_literal
returns-then-is_literal c us s = c.is_all_space.ensures ∙ blank_all _ _ us c.as_str-text.utf8 (spelled _ us c.as_str-text.ensures.value s) c.if-is_literal.true

pub returns-else-is_literal : goal.returns-else-is_literal
returns-else-is_literal c us s = ne_eqb _ _ c.if-is_literal.false ∙ blank_not _ _ us c.as_str-text.utf8 (spelled _ us c.as_str-text.ensures.value s) c.if-is_literal.false
