use Rattle.cli.proofs.Applying.{removed_found, unremoved}
use Rattle.cli.proofs.ask.text_without.Goals as goal

pub returns-in-Ok : goal.returns-in-Ok
returns-in-Ok c = removed_found c.args.path.now c.args.text.now _ c.in-Ok.ensures.removed c.in-Ok.ensures.found

pub returns-in-Err : goal.returns-in-Err
returns-in-Err c = unremoved c.args.path _ c.in-Err.failure _ c.in-Err.ensures.fails c.unedited.ensures
