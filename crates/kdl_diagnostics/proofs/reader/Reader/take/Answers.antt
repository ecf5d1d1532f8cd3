use Rattle.std.proofs.Common.{refl}
use Rattle.kdl_diagnostics.proofs.NotedSpans.{keeps_if, takes_before}
use Rattle.kdl_diagnostics.proofs.Passing.{after_same}
use Rattle.kdl_diagnostics.proofs.reader.Reader.take.Goals as goal

pub returns-clause-takes : goal.returns-clause-takes
returns-clause-takes c = takes_before _ _ _ c.take_part.ensures.takes (keeps_if (λ text s. (rw c.in-Some.is at s.0.comment, after_same _ _ _ s.1.piece c.checkpoint-end.ensures.rest)) c.note.ensures.keeps) refl
