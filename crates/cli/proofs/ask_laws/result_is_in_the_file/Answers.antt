use Rattle.cli.proofs.AskLaws.{left_in_file}
use Rattle.cli.proofs.ask_laws.result_is_in_the_file.Goals as goal

pub returns : goal.returns
returns c = left_in_file
