use Rattle.kdl_text.specs.Spans.{bytes}
use Rattle.kdl_diagnostics.specs.Internal.Reading.{FindsOn}
use Rattle.kdl_diagnostics.proofs.strings.units.Given as goal

abbrev pub invariant-units : goal.invariant-units
invariant-units l = FindsOn 5 0 l.fn.found l.fn.cursor l.found l.cursor

abbrev pub decreases-units : goal.decreases-units
decreases-units l = bytes l.cursor.rest
