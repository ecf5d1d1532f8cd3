use Rattle.cli.proofs.Applying.{unremoved_each}
use Rattle.cli.proofs.ask.text_without_each.Goals as goal

pub returns-in-Err : goal.returns-in-Err
returns-in-Err c = unremoved_each c.args.query c.args.target _ c.in-Err.failure _ c.in-Err.ensures.fails c.unedited.ensures
