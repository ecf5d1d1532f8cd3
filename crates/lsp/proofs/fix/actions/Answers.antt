use Rattle.lsp.proofs.Nesting.{begun, some_json, wrote}
use Rattle.lsp.proofs.fix.actions.Goals as goal

pub returns : goal.returns
returns c =
    let one = wrote _ _ _ _ _ c.in_ok-begin_array.ensures (begun _ _ _ c.begin-out.ensures.before c.begin-out.ensures.tokens) in
    some_json _ _ c.end.result c.end.ensures.value (wrote _ _ _ _ _ c.in_ok-end_array.ensures (c.in_ok-put_fixes.ensures _ one))
