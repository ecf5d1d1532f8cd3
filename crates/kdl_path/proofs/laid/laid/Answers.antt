use Rattle.kdl_path.proofs.Ends.{twice}
use Rattle.kdl_path.proofs.laid.laid.Goals as goal

pub returns : goal.returns
returns c = twice c.args.node c.indent.new.node c.end.new.node c.in_ok-indent.ensures c.in_ok-end.ensures
