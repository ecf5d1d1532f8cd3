use Rattle.std.proofs.Common.{arith}
use Rattle.kdl_text.proofs.Numeric.DigitRuns.{decimals_turn, decimals_stop}
use Rattle.kdl_text.proofs.chars.decimals_len.Goals as goal

pub returns-then-digit-gt9 : goal.returns-then-digit-gt9
returns-then-digit-gt9 c = decimals_stop _ _ _ c.digits.invariant c.if-digit-gt9.true

pub digits-preserved : goal.digits-preserved
digits-preserved c = decimals_turn _ _ _ _ c.digits.invariant c.digits-test.true c.from.ensures (c.type_inv.bytes _).fits (omega (arith, c.from.ensures, c.if-digit-gt9.false))
