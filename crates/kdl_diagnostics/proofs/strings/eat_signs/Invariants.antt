use Rattle.std.proofs.Common.{◌-◌}
use Rattle.kdl_diagnostics.specs.Internal.Reading.{Reads}
use Rattle.kdl_diagnostics.proofs.strings.eat_signs.Given as goal

abbrev pub invariant-signs : goal.invariant-signs
invariant-signs l = Reads 1 0 l.fn.cursor l.cursor

abbrev pub decreases-signs : goal.decreases-signs
decreases-signs l = l.most - l.count
