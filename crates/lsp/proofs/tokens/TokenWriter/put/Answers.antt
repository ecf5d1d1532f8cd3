use Rattle.lsp.proofs.Nesting.{wrote}
use Rattle.lsp.proofs.tokens.TokenWriter.put.Goals as goal

pub loop-n-preserved : goal.loop-n-preserved
loop-n-preserved c m is = wrote _ _ _ _ _ c.in_ok-u64.ensures (c.loop-n.invariant m is)
