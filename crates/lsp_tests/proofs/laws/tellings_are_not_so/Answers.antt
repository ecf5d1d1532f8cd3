use Rattle.lsp.proofs.Texts.{empty_tells_nothing}
use Rattle.lsp_tests.proofs.laws.tellings_are_not_so.Goals as goal

pub returns-clause-empty : goal.returns-clause-empty
returns-clause-empty c messages note notes tells = empty_tells_nothing note tells.0
