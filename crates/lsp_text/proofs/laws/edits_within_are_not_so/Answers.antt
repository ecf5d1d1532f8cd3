use Rattle.lsp_text.proofs.Examples.{lost_line, none_within, outside}
use Rattle.lsp_text.proofs.laws.edits_within_are_not_so.Goals as goal

pub returns-clause-none : goal.returns-clause-none
returns-clause-none c = none_within

pub returns-clause-lost : goal.returns-clause-lost
returns-clause-lost c = lost_line

pub returns-clause-outside : goal.returns-clause-outside
returns-clause-outside c = outside
