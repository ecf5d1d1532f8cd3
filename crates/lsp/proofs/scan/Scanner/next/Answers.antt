use Rattle.std.proofs.Common.{arith}
use Rattle.lsp.proofs.Scanning.{cut_shorter}
use Rattle.lsp.proofs.scan.Scanner.next.Goals as goal

pub returns-in-Some : goal.returns-in-Some
returns-in-Some c =
    let h = rw c.in-Ok-Some.field-0-is at c.in-Ok-Some.ensures.lexed in
    cut_shorter h.cuts

pub returns : goal.returns
returns c =
    let h = rw c.in-Ok-Some.field-0-is at c.in-Ok-Some.ensures.lexed in
    omega (arith, cut_shorter h.cuts, c.skip_line-ends_text.ensures.left)
