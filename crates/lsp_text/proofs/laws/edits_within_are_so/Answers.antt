use Rattle.lsp_text.proofs.Tight.{lone_line, of_line_edits}
use Rattle.lsp_text.proofs.laws.edits_within_are_so.Goals as goal

pub returns-clause-some : goal.returns-clause-some
returns-clause-some c = of_line_edits

pub returns-clause-line : goal.returns-clause-line
returns-clause-line c = lone_line
