use Rattle.std.proofs.Common.{rules, ◌≡◌, ◌∷◌, [], Some}
use Rattle.lsp_documents.specs.States.{document_at}
use Rattle.lsp.proofs.Publishing.{one_sent}
use Rattle.lsp.proofs.publish.put_one.Goals as goal

pub returns : goal.returns
returns c =
    let at : document_at c.args.state.now c.args.uri.now ≡ Some c.in-Some.document.now = search rules in
    (c.in_ok-notice.notice ∷ [], c.in_ok-push.ensures.items, one_sent c.args.state.now c.args.uri.now _ c.in-Some.document.now c.in-Some-text.text _ at c.in-Some-text.is c.deref.ensures c.in_ok-notice.ensures)
