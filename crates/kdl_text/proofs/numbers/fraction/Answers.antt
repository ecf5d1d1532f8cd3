use Rattle.std.proofs.Common.{arith}
use Rattle.kdl_text.proofs.Looking.SliceCost.{past_then, past_two, past_more, past_took, past_look}
use Rattle.kdl_text.proofs.Numeric.DecimalReads.{fraction_none, fraction_some, fraction_broken}
use Rattle.kdl_text.proofs.numbers.fraction.Goals as goal

pub returns-then-not-eat : goal.returns-then-not-eat
returns-then-not-eat c = record { reads = fraction_none _ _ c.if-not-eat.ensures; past = past_more (omega arith) (past_two (past_look c.if-not-eat.ensures.1)) }

pub returns-in-Some : goal.returns-in-Some
returns-in-Some c = record { reads = fraction_some _ _ _ c.decimal_integer.new.cursor c.if-not-eat.ensures c.in-Some.ensures.reads; past = past_more (omega arith) (past_then (past_two (past_took c.if-not-eat.ensures)) c.in-Some.ensures.past) }

pub returns-in-None : goal.returns-in-None
returns-in-None c = record { reads = fraction_broken _ _ c.decimal_integer.new.cursor c.if-not-eat.ensures c.in-None.ensures.reads; past = past_more (omega arith) (past_then (past_two (past_took c.if-not-eat.ensures)) c.in-None.ensures.past) }
