use Rattle.kdl_text.proofs.Looking.MarkMasks.{newline_masks}
use Rattle.kdl_text.proofs.marks.newline_marks.Goals as goal

pub returns : goal.returns
returns c = newline_masks c.args.v c.fits-v.0 c.fits-v.1
