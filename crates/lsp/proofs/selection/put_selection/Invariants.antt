-- As many objects are open as ranges are written.
use Rattle.std.proofs.Common.{◌≡◌, ◌+◌, length, vec_len}
use Rattle.lsp.specs.Internal.Nesting.{Items, Nesting, in_objects, nesting}
use Rattle.lsp.proofs.selection.put_selection.Given as goal

abbrev pub invariant-loop-span : goal.invariant-loop-span
invariant-loop-span l = (l.depth + vec_len l.around ≡ vec_len l.initial.around) × ((n : Nesting) → nesting l.fn.out ≡ Items n → nesting l.out ≡ in_objects l.depth n)

abbrev pub decreases-loop-span : goal.decreases-loop-span
decreases-loop-span l = length l.around.items

abbrev pub invariant-loop-depth : goal.invariant-loop-depth
invariant-loop-depth l = (n : Nesting) → nesting l.fn.out ≡ Items n → nesting l.out ≡ in_objects l.depth n

abbrev pub decreases-loop-depth : goal.decreases-loop-depth
decreases-loop-depth l = l.depth
