-- Items are written.
use Rattle.lsp.specs.Internal.Nesting.{WritesItems}
use Rattle.lsp.proofs.tokens.TokenWriter.put_lines.Given as goal

abbrev pub invariant-loop-line : goal.invariant-loop-line
invariant-loop-line l = WritesItems l.fn.out l.out
