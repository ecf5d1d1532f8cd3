use Rattle.std.proofs.Common.{length}
use Rattle.kdl_path.specs.Internal.Cursor.{IsMoved}
use Rattle.kdl_path.proofs.cursor.block.Block.reach.Given as goal

-- the block is the same, with other nodes apart
abbrev pub invariant-loop-self : goal.invariant-loop-self
invariant-loop-self l = IsMoved l.fn.self l.self

abbrev pub decreases-loop-self : goal.decreases-loop-self
decreases-loop-self l = length l.self.after.items
