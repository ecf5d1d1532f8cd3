use Rattle.cli.proofs.Applying.{unset_each}
use Rattle.cli.proofs.ask.text_with_each.Goals as goal

pub returns-in-Err : goal.returns-in-Err
returns-in-Err c = unset_each c.args.query c.args.target c.args.value _ c.in-Err.failure _ c.in-Err.ensures.fails c.unedited.ensures
