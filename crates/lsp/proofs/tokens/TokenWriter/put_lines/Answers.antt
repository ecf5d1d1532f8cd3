use Rattle.lsp.proofs.tokens.TokenWriter.put_lines.Goals as goal

pub loop-line-preserved : goal.loop-line-preserved
loop-line-preserved c n is = c.in_ok-put.ensures n (c.loop-line.invariant n is)
