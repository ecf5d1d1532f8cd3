use Rattle.std.proofs.Common.{length}
use Rattle.kdl_text.proofs.Quoted.HexLoop.{Digits}
use Rattle.kdl_text.proofs.strings.hex_number.Given as goal

abbrev pub invariant-digits : goal.invariant-digits
invariant-digits l = Digits l.fn.cursor l.cursor l.value l.count

abbrev pub decreases-digits : goal.decreases-digits
decreases-digits l = length l.cursor.rest
