use Rattle.kdl.proofs.Common.{text_of}
use Rattle.kdl.proofs.Putting.NodeEnds.{more_newlines}
use Rattle.kdl.proofs.ends.push_newlines.Goals as goal

pub loop-newline-preserved : goal.loop-newline-preserved
loop-newline-preserved c = more_newlines (text_of c.push_text.new.out) (text_of c.loop-newline.text) (text_of c.args.text.now) c.loop-newline._newline c.in_ok-push_text.ensures c.loop-newline.invariant
