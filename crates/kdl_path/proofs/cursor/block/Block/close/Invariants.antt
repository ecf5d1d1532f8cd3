use Rattle.std.proofs.Common.{length}
use Rattle.kdl_path.specs.Internal.Cursor.{IsMoved}
use Rattle.kdl_path.proofs.cursor.block.Block.close.Given as goal

-- the block is the same, with other nodes apart
abbrev pub invariant-loop-block : goal.invariant-loop-block
invariant-loop-block l = IsMoved l.fn.self l.block

abbrev pub decreases-loop-block : goal.decreases-loop-block
decreases-loop-block l = length l.block.after.items
