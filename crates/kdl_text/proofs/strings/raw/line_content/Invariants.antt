use Rattle.std.proofs.Common.{length}
use Rattle.kdl_text.specs.Chars.{times}
use Rattle.kdl_text.proofs.RawStrings.LinesLoop.{InRaw}
use Rattle.kdl_text.proofs.strings.raw.line_content.Given as goal

abbrev pub invariant-parts : goal.invariant-parts
invariant-parts l = InRaw (times l.signs 35) l.fn.cursor l.cursor

abbrev pub decreases-parts : goal.decreases-parts
decreases-parts l = length l.cursor.rest
