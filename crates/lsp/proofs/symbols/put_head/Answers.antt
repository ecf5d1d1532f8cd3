use Rattle.std.proofs.Common.{refl}
use Rattle.std.proofs.lemmas.Result.{on_ok_weaker}
use Rattle.lsp.proofs.Nesting.{wrote}
use Rattle.lsp.proofs.symbols.put_head.Goals as goal

pub returns : goal.returns
returns c =
    on_ok_weaker c.put_range.result
    (λ e. (
    let one = wrote _ _ _ _ _ c.in_ok-begin_object.ensures refl in
    let two = c.in_ok-put_text.ensures.members _ one in
    let three = c.in_ok-put_number.ensures.members _ two in
    e _ three))
    c.put_range.ensures.members
