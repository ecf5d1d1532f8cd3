use Rattle.lsp_documents.proofs.Due.{due_kept, on_ok}
use Rattle.lsp_documents.proofs.state.State.keep_due.Goals as goal

pub returns-clause-due : goal.returns-clause-due
returns-clause-due c = on_ok c.keep.result (due_kept c.mark_due.new.self c.keep.new.self _ c.keep.ensures.only.due c.in_ok-mark_due.ensures.due)
