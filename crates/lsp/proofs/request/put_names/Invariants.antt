-- More is written: items.
use Rattle.std.proofs.Common.{◌≡◌}
use Rattle.lsp.specs.Internal.Nesting.{Grows, Items, Members, Nesting, nesting}
use Rattle.lsp.proofs.request.put_names.Given as goal

abbrev pub invariant-loop-name : goal.invariant-loop-name
invariant-loop-name l = Grows l.fn.out l.out × ((n : Nesting) → nesting l.fn.out ≡ Members n → nesting l.out ≡ Items (Members n))
