use Rattle.std.proofs.lemmas.Result.{on_ok_weaker}
use Rattle.lsp.proofs.Nesting.{wrote_last}
use Rattle.lsp.proofs.symbols.put_end.Goals as goal

pub returns : goal.returns
returns c =
    on_ok_weaker c.end_object.result
    (λ e n is. (
    let one = c.in_ok-put_range.ensures.members _ is in
    e _ one))
    (wrote_last _ _ _ _ c.end_object.ensures)
