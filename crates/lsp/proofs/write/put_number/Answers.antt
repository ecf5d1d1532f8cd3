use Rattle.std.proofs.lemmas.Result.{on_ok_weaker}
use Rattle.lsp.proofs.Nesting.{wrote, wrote_last}
use Rattle.lsp.proofs.write.put_number.Goals as goal

pub returns-clause-members : goal.returns-clause-members
returns-clause-members c =
    on_ok_weaker c.u64.result
    (λ e n is. (
    let one = wrote _ _ _ _ _ c.in_ok-key.ensures is in
    e _ one))
    (wrote_last _ _ _ _ c.u64.ensures)
