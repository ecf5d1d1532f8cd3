use Rattle.lsp_documents.proofs.Due.{due_pushed}
use Rattle.lsp_documents.proofs.state.State.mark_due.Goals as goal

pub returns-clause-due : goal.returns-clause-due
returns-clause-due c = due_pushed _ _ c.args.self.now.due.items c.in_ok-from_str.field-0 c.in_ok-push.ensures.items c.in_ok-from_str.ensures.ok
