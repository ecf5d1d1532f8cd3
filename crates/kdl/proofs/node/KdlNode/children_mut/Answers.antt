use Rattle.kdl.proofs.Common.{rules, refl, block_of}
use Rattle.kdl.proofs.PiecesExchanged.{block_exchanges, some_exchanges}
use Rattle.kdl.proofs.ReadingBack.{block_exchanged}
use Rattle.kdl.proofs.node.KdlNode.children_mut.Goals as goal

pub returns : goal.returns
returns c = (
  search rules,
  record {
    writes_back = tt;
    value = refl;
    reads = λ d e h f. block_exchanged c.args.self.now d e h f;
    bytes = block_exchanges c.args.self.now;
    bytes_there = some_exchanges c.args.self.now (block_of c.args.self.now) refl;
  },
)
