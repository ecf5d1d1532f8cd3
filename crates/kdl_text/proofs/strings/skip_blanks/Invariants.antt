use Rattle.std.proofs.Common.{length}
use Rattle.kdl_text.proofs.Quoted.EscapedSpaceLoop.{Blank}
use Rattle.kdl_text.proofs.strings.skip_blanks.Given as goal

abbrev pub invariant-blanks : goal.invariant-blanks
invariant-blanks l = Blank l.fn.cursor l.cursor

abbrev pub decreases-blanks : goal.decreases-blanks
decreases-blanks l = length l.cursor.rest
