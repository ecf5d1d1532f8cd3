use Rattle.std.proofs.Common.{arith}
use Rattle.std.proofs.lemmas.List.Sums.{sum_by-take-le}
use Rattle.kdl_text.specs.Internal.Lines.{line_room}
use Rattle.kdl_text.proofs.ManyLines.DedentReads.{room_more}
use Rattle.kdl_text.proofs.strings.dedent.room_for.Goals as goal

pub loop-line-preserved : goal.loop-line-preserved
loop-line-preserved c = omega (arith, c.loop-line.invariant, c.len.ensures, room_more c.args.lines.now c.loop-line.line-index c.line-item.result c.loop-line-test.true c.line-item.is)

pub returns : goal.returns
returns c = omega (arith, c.loop-line.invariant, sum_by-take-le line_room c.args.lines.now c.loop-line.line-index)
