use Rattle.std.proofs.lemmas.Result.{on_ok_weaker}
use Rattle.lsp.proofs.Nesting.{wrote, wrote_last}
use Rattle.lsp.proofs.faults.Report.put_related.Goals as goal

pub returns-clause-members : goal.returns-clause-members
returns-clause-members c =
    on_ok_weaker c.end_array.result
    (λ e n is. (
    let one = wrote _ _ _ _ _ c.in_ok-key.ensures is in
    let two = wrote _ _ _ _ _ c.in_ok-begin_array.ensures one in
    let three = wrote _ _ _ _ _ c.in_ok-begin_object.ensures two in
    let four = c.in_ok-put_location.ensures.members _ three in
    let five = c.in_ok-put_text.ensures.members _ four in
    let six = wrote _ _ _ _ _ c.in_ok-end_object.ensures five in
    e _ six))
    (wrote_last _ _ _ _ c.end_array.ensures)
