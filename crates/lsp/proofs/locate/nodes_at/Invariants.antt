use Rattle.kdl.specs.Internal.Count.{count_nodes}
use Rattle.lsp.proofs.locate.nodes_at.Given as goal

abbrev pub decreases-loop-site : goal.decreases-loop-site
decreases-loop-site l = count_nodes l.nodes
