use Rattle.std.proofs.Common.{ap}
use Rattle.kdl.specs.Words.{value_tree}
use Rattle.cli_shown.proofs.Quoting.{as_it_is}
use Rattle.cli_shown.proofs.values.unquoted.Goals as goal

pub returns-in-String : goal.returns-in-String
returns-in-String c = as_it_is c.in-String.text (value_tree c.args.value.now) c.deref.result.now c.from_str.result (ap value_tree c.in-String.is) c.deref.ensures c.from_str.ensures.ok
