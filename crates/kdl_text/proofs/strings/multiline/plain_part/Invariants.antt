use Rattle.std.proofs.Common.{length}
use Rattle.kdl_text.proofs.ManyLines.PlainLoop.{InPlain}
use Rattle.kdl_text.proofs.strings.multiline.plain_part.Given as goal

abbrev pub invariant-runs : goal.invariant-runs
invariant-runs l = InPlain l.fn.cursor l.cursor

abbrev pub decreases-runs : goal.decreases-runs
decreases-runs l = length l.cursor.rest
