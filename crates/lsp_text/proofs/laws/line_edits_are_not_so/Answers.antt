use Rattle.lsp_text.proofs.Examples.{inside_line, no_edit, same_line}
use Rattle.lsp_text.proofs.laws.line_edits_are_not_so.Goals as goal

pub returns-clause-none : goal.returns-clause-none
returns-clause-none c = no_edit

pub returns-clause-same : goal.returns-clause-same
returns-clause-same c = same_line

pub returns-clause-inside : goal.returns-clause-inside
returns-clause-inside c = inside_line
