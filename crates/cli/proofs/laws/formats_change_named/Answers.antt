use Rattle.cli.proofs.FormatSteps.{changes_named}
use Rattle.cli.proofs.laws.formats_change_named.Goals as goal

pub returns : goal.returns
returns c = changes_named
