use Rattle.std.proofs.lemmas.Result.{on_ok_weaker}
use Rattle.lsp.proofs.Nesting.{wrote, wrote_last}
use Rattle.lsp.proofs.fold.put_fold.Goals as goal

pub returns : goal.returns
returns c =
    on_ok_weaker c.end_object.result
    (λ e n is. (
    let one = wrote _ _ _ _ _ c.in_ok-begin_object.ensures is in
    let two = c.in_ok-put_number.ensures.members _ one in
    let three = c.in_ok-put_number-2.ensures.members _ two in
    let four = c.in_ok-put_kind.ensures _ three in
    e _ four))
    (wrote_last _ _ _ _ c.end_object.ensures)
