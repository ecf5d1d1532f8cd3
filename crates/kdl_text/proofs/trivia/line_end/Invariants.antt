use Rattle.std.proofs.Common.{length}
use Rattle.kdl_text.proofs.Spacing.LineLoop.{InLine}
use Rattle.kdl_text.proofs.trivia.line_end.Given as goal

abbrev pub invariant-line : goal.invariant-line
invariant-line l = InLine l.initial.cursor l.cursor

abbrev pub decreases-line : goal.decreases-line
decreases-line l = length l.cursor.rest
