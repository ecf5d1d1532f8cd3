use Rattle.std.proofs.Common.{◌∙◌}
use Rattle.kdl_syntax.proofs.OpenBlocks.{end_closed}
use Rattle.kdl_syntax.proofs.control.Control.may_end.Goals as goal

pub returns-in-Gap : goal.returns-in-Gap
returns-in-Gap c = let self = c.args.self.now in c.is_empty.ensures ∙ end_closed self.phase self.frames.items self.frames.len c.in-Gap.is self.frames.ok.0
