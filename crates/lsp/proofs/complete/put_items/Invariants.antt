-- Items are written.
use Rattle.std.proofs.Common.{length}
use Rattle.lsp.specs.Internal.Nesting.{WritesItems}
use Rattle.lsp.proofs.complete.put_items.Given as goal

abbrev pub decreases-loop-reader : goal.decreases-loop-reader
decreases-loop-reader l = length l.reader.scanner.cursor.rest

abbrev pub invariant-loop-word : goal.invariant-loop-word
invariant-loop-word l = WritesItems l.fn.out l.out
