use Rattle.lsp_documents.proofs.Numbers.{no_half, no_negative, small_numbers}
use Rattle.lsp_documents.proofs.laws.numbers_are_so.Goals as goal

pub returns-clause-whole : goal.returns-clause-whole
returns-clause-whole c = small_numbers

pub returns-clause-half : goal.returns-clause-half
returns-clause-half c = no_half

pub returns-clause-negative : goal.returns-clause-negative
returns-clause-negative c = no_negative
