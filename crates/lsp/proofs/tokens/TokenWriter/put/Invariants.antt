-- Items are written.
use Rattle.lsp.specs.Internal.Nesting.{WritesItems}
use Rattle.lsp.proofs.tokens.TokenWriter.put.Given as goal

abbrev pub invariant-loop-n : goal.invariant-loop-n
invariant-loop-n l = WritesItems l.fn.out l.out
