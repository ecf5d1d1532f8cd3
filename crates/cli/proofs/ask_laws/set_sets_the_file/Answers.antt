use Rattle.cli.proofs.AskLaws.{set_by_run}
use Rattle.cli.proofs.ask_laws.set_sets_the_file.Goals as goal

pub returns : goal.returns
returns c = set_by_run
