use Rattle.kdl_diagnostics.proofs.NotedSpans.{keeps_if, keeps_then}
use Rattle.kdl_diagnostics.proofs.state.Progress.go_on.Goals as goal

pub returns-in-Some-Opening : goal.returns-in-Some-Opening
returns-in-Some-Opening c = keeps_then c.take.ensures (keeps_if (λ text s. tt) c.tell_block.ensures)
