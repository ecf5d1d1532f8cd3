use Rattle.kdl_text.specs.Spans.{bytes}
use Rattle.kdl_text.specs.Internal.Lines.{LinesOf}
use Rattle.kdl_text.proofs.ManyLines.LinesJoin.{InLines}
use Rattle.kdl_text.proofs.strings.multiline.content.Given as goal

abbrev pub invariant-lines : goal.invariant-lines
invariant-lines l = InLines (LinesOf l.signs) l.fn.cursor l.cursor l.lines.items

abbrev pub decreases-lines : goal.decreases-lines
decreases-lines l = bytes l.cursor.rest
