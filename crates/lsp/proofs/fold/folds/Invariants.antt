-- An array is open.
use Rattle.std.proofs.Common.{◌≡◌, length}
use Rattle.lsp.specs.Internal.Nesting.{End, Items, nesting}
use Rattle.lsp.proofs.fold.folds.Given as goal

abbrev pub decreases-loop-scanner : goal.decreases-loop-scanner
decreases-loop-scanner l = length l.scanner.cursor.rest

abbrev pub invariant-loop-scanner : goal.invariant-loop-scanner
invariant-loop-scanner l = nesting l.out ≡ Items End
