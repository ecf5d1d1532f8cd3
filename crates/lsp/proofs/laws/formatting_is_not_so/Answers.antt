use Rattle.lsp.proofs.Edits.{some_edits, some_formatting}
use Rattle.lsp.proofs.Refused.{not_unformatted, one_indent}
use Rattle.lsp.proofs.laws.formatting_is_not_so.Goals as goal

pub returns-clause-silent : goal.returns-clause-silent
returns-clause-silent c = some_formatting

pub returns-clause-unedited : goal.returns-clause-unedited
returns-clause-unedited c = some_edits

pub returns-clause-unformatted : goal.returns-clause-unformatted
returns-clause-unformatted c = not_unformatted

pub returns-clause-indent : goal.returns-clause-indent
returns-clause-indent c = one_indent
