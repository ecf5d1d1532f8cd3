use Rattle.kdl_path.proofs.Changes.{made_at}
use Rattle.kdl_path.proofs.change.change_at.Goals as goal

pub returns : goal.returns
returns c =
    made_at c.args.path.now c.in-Some.above.now c.in-Some.last.now c.args.change c.args.document c.close.result c.in-Ok.opened c.change_in.new.block
    c.in-Some.ensures.cases.0 c.in-Ok.ensures.opened c.in_ok-change_in.ensures c.close.ensures
