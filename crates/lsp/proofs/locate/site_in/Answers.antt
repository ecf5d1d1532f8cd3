use Rattle.lsp.proofs.Trees.{if_then_some, last_in}
use Rattle.lsp.proofs.locate.site_in.Goals as goal

pub returns : goal.returns
returns c =
    rw c.then_some.ensures (if_then_some _ c.touches.result _ (c.in_ok-nodes.field-0-1.now, last_in _ _ _ _ _ _ c.in_ok-nodes.ensures.cases c.in_ok-node.ensures.cases))
