use Rattle.kdl_layout.proofs.Common.{text_of}
use Rattle.kdl_layout.proofs.blank.push_empty_lines.Goals as goal
use Rattle.kdl_layout.proofs.Texts.{more_newlines}

pub loop-line-preserved : goal.loop-line-preserved
loop-line-preserved c = more_newlines (text_of c.push_text.new.out) (text_of c.loop-line.out) (text_of c.args.out.now) c.loop-line._line c.in_ok-push_text.ensures c.loop-line.invariant
