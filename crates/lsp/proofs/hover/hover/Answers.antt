use Rattle.lsp.proofs.Nesting.{begun, some_json, wrote}
use Rattle.lsp.proofs.hover.hover.Goals as goal

pub returns : goal.returns
returns c =
    let one = wrote _ _ _ _ _ c.in_ok-begin_object.ensures (begun _ _ _ c.begin-out.ensures.before c.begin-out.ensures.tokens) in
    let two = c.in_ok-put_content.ensures _ one in
    let three = c.in_ok-put_range.ensures.members _ two in
    some_json _ _ c.end.result c.end.ensures.value (wrote _ _ _ _ _ c.in_ok-end_object.ensures three)
