use Rattle.std.proofs.Common.{length, ◌-◌}
use Rattle.kdl_text.proofs.Numeric.DigitRuns.{InDecimals}
use Rattle.kdl_text.proofs.chars.decimals_len.Given as goal

abbrev pub invariant-digits : goal.invariant-digits
invariant-digits l = InDecimals l.bytes l.count l.value

abbrev pub decreases-digits : goal.decreases-digits
decreases-digits l = length l.bytes - l.count
