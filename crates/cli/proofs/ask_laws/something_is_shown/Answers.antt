use Rattle.cli.proofs.AskLaws.{some_json, some_value}
use Rattle.cli.proofs.ask_laws.something_is_shown.Goals as goal

pub returns-clause-get : goal.returns-clause-get
returns-clause-get c = some_value

pub returns-clause-json : goal.returns-clause-json
returns-clause-json c = some_json
