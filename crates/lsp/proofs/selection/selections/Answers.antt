use Rattle.lsp.proofs.Nesting.{begun, some_json, wrote}
use Rattle.lsp.proofs.selection.selections.Goals as goal

pub loop-place-init : goal.loop-place-init
loop-place-init c = wrote _ _ _ _ _ c.in_ok-begin_array.ensures (begun _ _ _ c.begin-out.ensures.before c.begin-out.ensures.tokens)

pub returns : goal.returns
returns c = some_json _ _ c.end.result c.end.ensures.value (wrote _ _ _ _ _ c.in_ok-end_array.ensures c.loop-place.invariant)

pub loop-place-preserved : goal.loop-place-preserved
loop-place-preserved c = c.in_ok-put_selection.ensures _ c.loop-place.invariant
