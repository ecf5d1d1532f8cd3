use Rattle.kdl_syntax.proofs.OpenBlocks.{not_over}
use Rattle.kdl_syntax.proofs.control.Control.over.Goals as goal

pub returns-then-not-is_empty : goal.returns-then-not-is_empty
returns-then-not-is_empty c = let self = c.args.self.now in not_over self.phase self.frames.items self.frames.len self.frames.ok.0 c.if-not-is_empty.ensures
