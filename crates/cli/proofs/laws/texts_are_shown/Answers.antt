use Rattle.cli.proofs.TextLaws.{completions_shown, manual_shown}
use Rattle.cli.proofs.laws.texts_are_shown.Goals as goal

pub returns-clause-completions : goal.returns-clause-completions
returns-clause-completions c = completions_shown

pub returns-clause-manual : goal.returns-clause-manual
returns-clause-manual c = manual_shown
