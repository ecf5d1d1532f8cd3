use Rattle.kdl_layout.proofs.Common.{chars}
use Rattle.kdl_layout.proofs.spaces.break_ending.Goals as goal

pub line_ending-requires : goal.line_ending-requires
line_ending-requires c = (chars c.args.text.now, c.requires, c.line.ensures.end)

pub returns : goal.returns
returns c = rw c.line.ensures.end at c.line_ending.ensures
