use Rattle.lsp_documents.proofs.Due.{none_due}
use Rattle.lsp_documents.proofs.laws.due_documents_are_not_so.Goals as goal

pub returns-clause-none : goal.returns-clause-none
returns-clause-none c = none_due

pub returns-clause-opened : goal.returns-clause-opened
returns-clause-opened c old new uri text none marks = none_due new uri none (marks (λ says. says))
