use Rattle.lsp.proofs.complete.put_items.Goals as goal

pub loop-word-preserved : goal.loop-word-preserved
loop-word-preserved c n is = c.in_ok-put_item.ensures n (c.loop-word.invariant n is)
