-- The edits so far are written.
use Rattle.std.proofs.Common.{◌≡◌, ◌++◌, flat_map, take}
use Rattle.lsp.specs.Formatting.{edit_tokens}
use Rattle.lsp.proofs.format.put_edits.Given as goal

abbrev pub invariant-loop-edit : goal.invariant-loop-edit
invariant-loop-edit l =
    (l.out.before ≡ l.initial.out.before)
    × (l.out.tokens ≡ l.initial.out.tokens ++ flat_map (λ d. edit_tokens d.range d.text.now) (take l.edit-index l.edits))
