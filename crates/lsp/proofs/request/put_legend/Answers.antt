use Rattle.std.proofs.lemmas.Result.{on_ok_weaker}
use Rattle.lsp.proofs.Nesting.{wrote, wrote_last}
use Rattle.lsp.proofs.request.put_legend.Goals as goal

pub returns-clause-members : goal.returns-clause-members
returns-clause-members c =
    on_ok_weaker c.end_object.result
    (λ e n is. (
    let one = wrote _ _ _ _ _ c.in_ok-key.ensures is in
    let two = wrote _ _ _ _ _ c.in_ok-begin_object.ensures one in
    let three = c.in_ok-put_names.ensures.members _ two in
    let four = c.in_ok-put_names-2.ensures.members _ three in
    e _ four))
    (wrote_last _ _ _ _ c.end_object.ensures)
