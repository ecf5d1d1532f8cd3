use Rattle.std.proofs.Common.{arith}
use Rattle.kdl_text.proofs.Spacing.NewlineUnique.{end_lf, end_one}
use Rattle.kdl_text.proofs.Looking.SliceCost.{past_ate, past_start, past_more}
use Rattle.kdl_text.proofs.strings.multiline.end_newline.Goals as goal

pub returns-then-c-eq13 : goal.returns-then-c-eq13
returns-then-c-eq13 c = record { reads = end_lf _ _ _ _ c.if-c-eq13.true c.eat.ensures; past = past_ate _ _ c.eat.ensures }

pub returns-else-c-eq13 : goal.returns-else-c-eq13
returns-else-c-eq13 c = record { reads = end_one _ _ c.requires c.if-c-eq13.false; past = past_more (omega arith) past_start }
