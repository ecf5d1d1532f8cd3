use Rattle.std.proofs.Common.{◌∙◌}
use Rattle.kdl_syntax.proofs.OpenBlocks.{gap_closed}
use Rattle.kdl_syntax.proofs.control.Control.is_between_nodes.Goals as goal

pub returns-in-Gap : goal.returns-in-Gap
returns-in-Gap c = let self = c.args.self.now in c.is_empty.ensures ∙ gap_closed self.phase self.frames.items self.frames.len c.in-Gap.is self.frames.ok.0
