use Rattle.std.proofs.Common.{◌∙◌, ap}
use Rattle.std.proofs.lemmas.Result.{on_ok_weaker}
use Rattle.lsp.specs.Internal.Nesting.{after_value}
use Rattle.lsp.proofs.Nesting.{wrote, wrote_last}
use Rattle.lsp.proofs.complete.put_item.Goals as goal

pub returns : goal.returns
returns c =
    on_ok_weaker c.end_object.result
    (λ e n is. (
    let one = wrote _ _ _ _ _ c.in_ok-begin_object.ensures is in
    let two = c.in_ok-put_text.ensures.members _ one in
    let three = c.in_ok-put_number.ensures.members _ two in
    let four = c.in_ok-put_text-2.ensures.members _ three in
    let five = wrote _ _ _ _ _ c.in_ok-key.ensures four in
    let six = c.in_ok-put_edit.ensures.value ∙ ap after_value five in
    e _ six))
    (wrote_last _ _ _ _ c.end_object.ensures)
