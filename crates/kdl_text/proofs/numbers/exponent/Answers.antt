use Rattle.std.proofs.Common.{arith}
use Rattle.kdl_text.proofs.Looking.SliceCost.{past_then, past_two, past_more, past_took, past_stayed}
use Rattle.kdl_text.proofs.Numeric.DecimalReads.{exponent_none, exponent_some, exponent_broken}
use Rattle.kdl_text.proofs.numbers.exponent.Goals as goal

pub returns-then-not-eat_exponent_letter : goal.returns-then-not-eat_exponent_letter
returns-then-not-eat_exponent_letter c = record { reads = exponent_none _ _ c.if-not-eat_exponent_letter.ensures; past = past_more (omega arith) (past_two (past_stayed c.if-not-eat_exponent_letter.ensures.1)) }

pub returns-in-Some : goal.returns-in-Some
returns-in-Some c = record {
  reads = exponent_some _ _ _ _ c.read_sign.new.cursor c.decimal_integer.new.cursor c.if-not-eat_exponent_letter.ensures c.read_sign.ensures.reads c.in-Some.ensures.reads;
  past = past_more (omega arith) (past_then (past_two (past_took c.if-not-eat_exponent_letter.ensures.2)) (past_then c.read_sign.ensures.past c.in-Some.ensures.past));
}

pub returns-in-None : goal.returns-in-None
returns-in-None c = record {
  reads = exponent_broken _ _ _ c.read_sign.new.cursor c.decimal_integer.new.cursor c.if-not-eat_exponent_letter.ensures c.read_sign.ensures.reads c.in-None.ensures.reads;
  past = past_more (omega arith) (past_then (past_two (past_took c.if-not-eat_exponent_letter.ensures.2)) (past_then c.read_sign.ensures.past c.in-None.ensures.past));
}
