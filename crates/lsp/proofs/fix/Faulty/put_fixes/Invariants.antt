-- Items are written.
use Rattle.lsp.specs.Internal.Nesting.{WritesItems}
use Rattle.lsp.proofs.fix.Faulty.put_fixes.Given as goal

abbrev pub invariant-loop-fault : goal.invariant-loop-fault
invariant-loop-fault l = WritesItems l.fn.out l.out
