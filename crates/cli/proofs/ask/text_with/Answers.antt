use Rattle.cli.proofs.Applying.{set_found, unset}
use Rattle.cli.proofs.ask.text_with.Goals as goal

pub returns-in-Ok : goal.returns-in-Ok
returns-in-Ok c = set_found c.args.path.now c.args.value.now c.args.create c.args.text.now _ c.in-Ok.ensures.set c.in-Ok.ensures.made c.in-Ok.ensures.found

pub returns-in-Err : goal.returns-in-Err
returns-in-Err c = unset c.args.path c.args.value _ _ c.in-Err.failure _ c.in-Err.ensures.fails c.unedited.ensures
