use Rattle.kdl_diagnostics.proofs.FrontEnds.{not_empty}
use Rattle.kdl_diagnostics.proofs.NotedSpans.{noted_same}
use Rattle.std.specs.Str.{chars}
use Rattle.kdl_diagnostics.proofs.told.failure.Goals as goal

pub error_of-requires-clause-some : goal.error_of-requires-clause-some
error_of-requires-clause-some c = rw c.deref.ensures.value (not_empty c.in-Ok.faults.items (λ e. c.requires (c.in-Ok.ensures.exact.0 e)))

pub error_of-requires-clause-noted : goal.error_of-requires-clause-noted
error_of-requires-clause-noted c = noted_same (chars c.args.text.now) c.in-Ok.faults.items c.deref.result.now c.deref.ensures.value c.in-Ok.ensures.noted
