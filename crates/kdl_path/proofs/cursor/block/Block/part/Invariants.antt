use Rattle.std.proofs.Common.{◌<◌, length}
use Rattle.kdl.specs.Words.{nodes_of}
use Rattle.kdl_path.specs.Internal.Cursor.{IsMoved}
use Rattle.kdl_path.proofs.cursor.block.Block.part.Given as goal

-- the block is the same, with other nodes apart, but not the one at the index
abbrev pub invariant-loop-self : goal.invariant-loop-self
invariant-loop-self l = record {
  moved : IsMoved l.fn.self l.self;
  there : l.index < length (nodes_of l.self.document);
}

abbrev pub decreases-loop-self : goal.decreases-loop-self
decreases-loop-self l = length (nodes_of l.self.document)
