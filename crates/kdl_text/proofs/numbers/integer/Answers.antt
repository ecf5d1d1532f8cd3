use Rattle.kdl_text.proofs.Looking.MovesJoin.{took_from}
use Rattle.kdl_text.proofs.Looking.SliceCost.{past_then, past_two, past_took}
use Rattle.kdl_text.proofs.Numeric.NumberReads.{base_low, integer_read}
use Rattle.kdl_text.proofs.numbers.integer.Goals as goal

pub returns : goal.returns
returns c = record {
  reads = integer_read _ _ _ _ _ _ _ c.digits.new.cursor (base_low c.args.radix) c.in-Some.ensures.result c.look.ensures.moved c.step.ensures c.in-Some-digit_of.ensures (rw c.from.ensures at c.digits.ensures.reads);
  past = past_then (past_two (past_took (took_from _ _ _ _ c.in-Some.ensures.result c.look.ensures.moved c.step.ensures))) c.digits.ensures.past;
}
