use Rattle.cli.proofs.AskLaws.{made_there}
use Rattle.cli.proofs.ask_laws.missing_value_is_made.Goals as goal

pub returns : goal.returns
returns c = made_there
