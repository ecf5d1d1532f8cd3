use Rattle.std.proofs.Common.{length}
use Rattle.std.specs.Str.{chars}
use Rattle.kdl_parser.proofs.Answering.LineSpaceReads.{Lines}
use Rattle.kdl_parser.proofs.line_spaces.line_spaces.Given as goal

abbrev pub invariant-tokens : goal.invariant-tokens
invariant-tokens l = Lines l.cursor (chars l.fn.text)

abbrev pub decreases-tokens : goal.decreases-tokens
decreases-tokens l = length l.cursor.rest
