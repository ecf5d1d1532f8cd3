use Rattle.kdl_text.proofs.ManyLines.LinesJoin.{raw_one}
use Rattle.kdl_text.proofs.strings.multiline.read_line.Goals as goal

pub returns-then-signs-eq0 : goal.returns-then-signs-eq0
returns-then-signs-eq0 c = rw c.if-signs-eq0.true c.quoted_line.ensures

pub returns : goal.returns
returns c = raw_one c.args.signs c.if-signs-eq0.false c.raw_line.ensures
