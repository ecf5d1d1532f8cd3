use Rattle.std.proofs.Common.{length, string_bytes}
use Rattle.std.specs.Str.{chars}
use Rattle.kdl_text.proofs.ManyLines.EscapedLineLoop.{InEscaped}
use Rattle.kdl_text.proofs.strings.multiline.line_escapes.Given as goal

abbrev pub invariant-escapes : goal.invariant-escapes
invariant-escapes l = InEscaped l.fn.cursor l.cursor (chars l.front) (string_bytes l.text) l.literal

abbrev pub decreases-escapes : goal.decreases-escapes
decreases-escapes l = length l.cursor.rest
