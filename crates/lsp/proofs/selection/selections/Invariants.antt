-- An array is open.
use Rattle.std.proofs.Common.{◌≡◌}
use Rattle.lsp.specs.Internal.Nesting.{End, Items, nesting}
use Rattle.lsp.proofs.selection.selections.Given as goal

abbrev pub invariant-loop-place : goal.invariant-loop-place
invariant-loop-place l = nesting l.out ≡ Items End
