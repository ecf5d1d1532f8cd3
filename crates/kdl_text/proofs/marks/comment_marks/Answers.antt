use Rattle.kdl_text.proofs.Looking.MarkMasks.{comment_masks}
use Rattle.kdl_text.proofs.marks.comment_marks.Goals as goal

pub returns : goal.returns
returns c = comment_masks c.args.v c.fits-v.0
