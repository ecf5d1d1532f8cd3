use Rattle.kdl_text.proofs.Looking.SliceCost.{ate}
use Rattle.kdl_diagnostics.proofs.Accepting.{bom}
use Rattle.kdl_diagnostics.proofs.front.skip_bom.Goals as goal

pub returns-in-Document-clause-accepts : goal.returns-in-Document-clause-accepts
returns-in-Document-clause-accepts c = rw c.in-Document.is (bom _ c.args.cursor.now c.eat.new.self c.eat.ensures)

pub returns-in-Document-clause-moves : goal.returns-in-Document-clause-moves
returns-in-Document-clause-moves c = (ate _ _ c.args.cursor.now c.eat.new.self c.eat.ensures).0
