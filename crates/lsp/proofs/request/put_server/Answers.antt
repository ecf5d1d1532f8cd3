use Rattle.std.proofs.lemmas.Result.{on_ok_weaker}
use Rattle.lsp.proofs.Nesting.{wrote, wrote_last}
use Rattle.lsp.proofs.request.put_server.Goals as goal

pub returns-clause-members : goal.returns-clause-members
returns-clause-members c =
    on_ok_weaker c.end_object.result
    (λ e n is. (
    let one = wrote _ _ _ _ _ c.in_ok-key.ensures is in
    let two = wrote _ _ _ _ _ c.in_ok-begin_object.ensures one in
    let three = c.in_ok-put_text.ensures.members _ two in
    e _ three))
    (wrote_last _ _ _ _ c.end_object.ensures)
