use Rattle.kdl_diagnostics.proofs.Accepting.{bom}
use Rattle.kdl.proofs.acceptance.skip_bom.Goals as goal

pub returns : goal.returns
returns c = bom _ c.args.cursor.now c.eat.new.self c.eat.ensures
