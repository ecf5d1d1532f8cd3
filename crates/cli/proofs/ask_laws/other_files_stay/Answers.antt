use Rattle.cli.proofs.AskLaws.{all_by_run, others_by_run}
use Rattle.cli.proofs.ask_laws.other_files_stay.Goals as goal

pub returns-clause-others : goal.returns-clause-others
returns-clause-others c = others_by_run

pub returns-clause-failed : goal.returns-clause-failed
returns-clause-failed c = all_by_run
