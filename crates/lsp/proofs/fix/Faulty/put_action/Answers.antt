use Rattle.std.proofs.Common.{◌∙◌, ap}
use Rattle.std.proofs.lemmas.Result.{on_ok_weaker}
use Rattle.lsp.specs.Internal.Nesting.{after_value}
use Rattle.lsp.proofs.Nesting.{wrote, wrote_last}
use Rattle.lsp.proofs.fix.Faulty.put_action.Goals as goal

pub returns : goal.returns
returns c =
    on_ok_weaker c.end_object-3.result
    (λ e n is. (
    let one = wrote _ _ _ _ _ c.in_ok-begin_object.ensures is in
    let two = c.in_ok-put_text.ensures.members _ one in
    let three = c.in_ok-put_text-2.ensures.members _ two in
    let four = c.in_ok-put_true.ensures.members _ three in
    let five = wrote _ _ _ _ _ c.in_ok-key.ensures four in
    let six = wrote _ _ _ _ _ c.in_ok-begin_array.ensures five in
    let seven = c.in_ok-put_fault.ensures.items _ six in
    let eight = wrote _ _ _ _ _ c.in_ok-end_array.ensures seven in
    let nine = wrote _ _ _ _ _ c.in_ok-key-2.ensures eight in
    let ten = wrote _ _ _ _ _ c.in_ok-begin_object-2.ensures nine in
    let eleven = wrote _ _ _ _ _ c.in_ok-key-3.ensures ten in
    let twelve = wrote _ _ _ _ _ c.in_ok-begin_object-3.ensures eleven in
    let thirteen = wrote _ _ _ _ _ c.in_ok-key-4.ensures twelve in
    let fourteen = wrote _ _ _ _ _ c.in_ok-begin_array-2.ensures thirteen in
    let fifteen = c.in_ok-put_edit.ensures.value ∙ ap after_value fourteen in
    let sixteen = wrote _ _ _ _ _ c.in_ok-end_array-2.ensures fifteen in
    let seventeen = wrote _ _ _ _ _ c.in_ok-end_object.ensures sixteen in
    let eighteen = wrote _ _ _ _ _ c.in_ok-end_object-2.ensures seventeen in
    e _ eighteen))
    (wrote_last _ _ _ _ c.end_object-3.ensures)
