use Rattle.lsp.proofs.Trees.{fewer_in}
use Rattle.lsp.proofs.locate.nodes_at.Goals as goal

pub loop-site-smaller : goal.loop-site-smaller
loop-site-smaller c = rw c.nodes_in-nodes.ensures (fewer_in _ _ c.in-Some.ensures.0 _ c.in-Some.ensures.1)
