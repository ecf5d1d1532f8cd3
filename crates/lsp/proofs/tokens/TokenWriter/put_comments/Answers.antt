use Rattle.lsp.proofs.tokens.TokenWriter.put_comments.Goals as goal

pub loop-scanner-preserved : goal.loop-scanner-preserved
loop-scanner-preserved c n is = c.in_ok-put_token.ensures n (c.loop-scanner.invariant n is)
