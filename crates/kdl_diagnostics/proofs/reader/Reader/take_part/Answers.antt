use Rattle.std.proofs.Common.{refl}
use Rattle.kdl_diagnostics.proofs.NotedSpans.{keeps_if, keeps_same, keeps_then, takes_after, takes_notes}
use Rattle.kdl_diagnostics.proofs.reader.Reader.take_part.Goals as goal

pub returns-then-is_refused-clause-takes : goal.returns-then-is_refused-clause-takes
returns-then-is_refused-clause-takes c = takes_after _ _ _ (keeps_same _ _) refl c.mend.ensures.takes

pub returns-in_err-take-clause-takes : goal.returns-in_err-take-clause-takes
returns-in_err-take-clause-takes c = takes_notes _ _ c.take.ensures refl

pub returns-in-Some-clause-takes : goal.returns-in-Some-clause-takes
returns-in-Some-clause-takes c = takes_notes _ _ (keeps_then c.take.ensures (keeps_if (λ text s. (s, s.start)) c.note_from.ensures.keeps)) refl
