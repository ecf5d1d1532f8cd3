use Rattle.cli.proofs.FormatSteps.{changes_something, prints_something}
use Rattle.cli.proofs.laws.formats_are_not_so.Goals as goal

pub returns-clause-print : goal.returns-clause-print
returns-clause-print c = prints_something

pub returns-clause-others : goal.returns-clause-others
returns-clause-others c = changes_something
