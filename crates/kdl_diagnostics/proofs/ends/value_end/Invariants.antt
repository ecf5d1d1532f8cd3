use Rattle.kdl_text.specs.Spans.{bytes}
use Rattle.kdl_diagnostics.specs.Internal.Reading.{Reads}
use Rattle.kdl_diagnostics.proofs.ends.value_end.Given as goal

abbrev pub invariant-ends : goal.invariant-ends
invariant-ends l = Reads 24 0 l.fn.cursor l.cursor

abbrev pub decreases-ends : goal.decreases-ends
decreases-ends l = bytes l.cursor.rest
