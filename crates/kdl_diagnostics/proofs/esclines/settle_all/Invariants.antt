use Rattle.kdl_text.specs.Spans.{bytes}
use Rattle.kdl_diagnostics.specs.Internal.Noted.{Always, Keeps}
use Rattle.kdl_diagnostics.specs.Internal.Reading.{Reads}
use Rattle.kdl_diagnostics.proofs.esclines.settle_all.Given as goal

abbrev pub invariant-characters : goal.invariant-characters
invariant-characters l = record { keeps : Keeps Always l.fn.notes l.notes; reads : Reads 4 0 l.fn.cursor l.cursor }

abbrev pub decreases-characters : goal.decreases-characters
decreases-characters l = bytes l.cursor.rest
