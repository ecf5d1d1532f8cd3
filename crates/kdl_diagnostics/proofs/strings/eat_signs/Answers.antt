use Rattle.kdl_text.proofs.Looking.MovesJoin.{moves_one}
use Rattle.kdl_text.proofs.Looking.SliceCost.{costs_took}
use Rattle.kdl_diagnostics.proofs.Passing.{reads_costs, reads_then}
use Rattle.kdl_diagnostics.proofs.strings.eat_signs.Goals as goal

pub signs-preserved : goal.signs-preserved
signs-preserved c = let took = c.if-not-eat.ensures in reads_then c.signs.invariant (reads_costs (moves_one took) (costs_took took))
