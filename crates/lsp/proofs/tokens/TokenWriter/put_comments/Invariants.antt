-- Items are written.
use Rattle.std.proofs.Common.{length}
use Rattle.lsp.specs.Internal.Nesting.{WritesItems}
use Rattle.lsp.proofs.tokens.TokenWriter.put_comments.Given as goal

abbrev pub decreases-loop-scanner : goal.decreases-loop-scanner
decreases-loop-scanner l = length l.scanner.cursor.rest

abbrev pub invariant-loop-scanner : goal.invariant-loop-scanner
invariant-loop-scanner l = WritesItems l.fn.out l.out
