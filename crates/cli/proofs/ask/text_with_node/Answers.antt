use Rattle.cli.proofs.Applying.{inserted_found, uninserted}
use Rattle.cli.proofs.ask.text_with_node.Goals as goal

pub returns-in-Ok : goal.returns-in-Ok
returns-in-Ok c = inserted_found c.args.path.now c.args.node.now c.args.text.now _ c.in-Ok.ensures.inserted c.in-Ok.ensures.found

pub returns-in-Err : goal.returns-in-Err
returns-in-Err c = uninserted c.args.path c.args.node _ c.in-Err.failure _ c.in-Err.ensures.fails c.unedited.ensures
