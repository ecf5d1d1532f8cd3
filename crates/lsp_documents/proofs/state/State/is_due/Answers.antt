use Rattle.std.proofs.Common.{◌∙◌, sym}
use Rattle.std.proofs.lemmas.Slice.Eq.{bytes_eq-Decides}
use Rattle.lsp_documents.proofs.Due.{due_found}
use Rattle.lsp_documents.proofs.state.State.is_due.Goals as goal

pub returns-then-eq : goal.returns-then-eq
returns-then-eq c =
    let same = (bytes_eq-Decides c.as_str.result.now c.args.uri.now).0 (sym c.eq.ensures ∙ c.if-eq.true) in
    λ found. due_found _ _ _ _ c.loop-other.other-index c.other-item.result c.deref-other-items.ensures.value c.loop-other-test.true c.other-item.is c.as_str.ensures.value same
