use Rattle.kdl_layout.proofs.Common.{chars}
use Rattle.kdl_layout.proofs.Keeping.KeptReads.{end_kept}
use Rattle.kdl_layout.proofs.layout.kept_end.Goals as goal

pub returns : goal.returns
returns c = end_kept c.args.config.now.no_comments (chars c.args.terminator.now) c.line_comment.result c.if-config.false c.line_comment.ensures
