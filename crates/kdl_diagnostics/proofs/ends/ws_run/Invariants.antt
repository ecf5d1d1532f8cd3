use Rattle.kdl_text.specs.Spans.{bytes}
use Rattle.kdl_diagnostics.specs.Internal.Reading.{Reads}
use Rattle.kdl_diagnostics.proofs.ends.ws_run.Given as goal

abbrev pub invariant-run : goal.invariant-run
invariant-run l = Reads 12 0 l.fn.cursor l.cursor

abbrev pub decreases-run : goal.decreases-run
decreases-run l = bytes l.cursor.rest
