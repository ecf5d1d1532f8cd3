use Rattle.std.proofs.Common.{length}
use Rattle.kdl_path.proofs.PathReads.{DigitsSoFar}
use Rattle.kdl_path.proofs.parse.skip_digits.Given as goal

abbrev pub invariant-digits : goal.invariant-digits
invariant-digits l = DigitsSoFar l.initial.cursor l.cursor

abbrev pub decreases-digits : goal.decreases-digits
decreases-digits l = length l.cursor.rest
