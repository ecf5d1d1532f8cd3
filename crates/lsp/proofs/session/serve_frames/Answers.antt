use Rattle.lsp.proofs.Sending.{on_ok}
use Rattle.lsp.proofs.Steps.{served}
use Rattle.lsp.proofs.session.serve_frames.Goals as goal

pub returns : goal.returns
returns g c =
    let p = c.in_ok-publish.ensures.step in
    on_ok c.flush-2.result
    (served _ _ _ _ _ _ _ _ _ _ _ c.in_ok-take_frames.ensures c.in_ok-flush.ensures.bytes p.1 p.2 c.flush-2.ensures.bytes c.in_ok-publish.ensures.session.0)
