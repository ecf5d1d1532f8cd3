use Rattle.cli.proofs.AskLaws.{put_on_output}
use Rattle.cli.proofs.ask_laws.result_is_on_the_output.Goals as goal

pub returns : goal.returns
returns c = put_on_output
