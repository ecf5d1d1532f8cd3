use Rattle.std.proofs.Common.{length}
use Rattle.kdl_text.specs.Internal.NumberReading.{radix_of}
use Rattle.kdl_text.proofs.Numeric.NumberReads.{InDigits}
use Rattle.kdl_text.proofs.numbers.digits.Given as goal

abbrev pub invariant-digits : goal.invariant-digits
invariant-digits l = InDigits (radix_of l.radix) l.before l.number l.fn.cursor l.here

abbrev pub decreases-digits : goal.decreases-digits
decreases-digits l = length l.here.rest
