use Rattle.kdl.proofs.Common.{rules}
use Rattle.kdl.proofs.ReadingBack.{entries_exchanged}
use Rattle.kdl.proofs.node.KdlNode.entries_mut.Goals as goal

pub returns : goal.returns
returns c = (search rules, record { writes_back = tt; value = search rules; reads = λ v f. entries_exchanged c.args.self.now v f })
