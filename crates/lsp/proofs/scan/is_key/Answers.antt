use Rattle.lsp.proofs.Scanning.{cut_shorter}
use Rattle.lsp.proofs.scan.is_key.Goals as goal

pub loop-token-smaller : goal.loop-token-smaller
loop-token-smaller c =
    let h = rw c.in-Ok-Some.field-0-is at c.in-Ok-Some.ensures.lexed in
    cut_shorter h.cuts
