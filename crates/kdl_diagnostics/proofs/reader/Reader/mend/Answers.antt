use Rattle.std.proofs.Common.{arith}
use Rattle.kdl_diagnostics.proofs.FrontEnds.{on_ok}
use Rattle.kdl_diagnostics.proofs.NotedSpans.{keeps_if, keeps_then, takes_on}
use Rattle.kdl_diagnostics.proofs.reader.Reader.mend.Goals as goal

pub returns-in_err-note_misfit-clause-takes : goal.returns-in_err-note_misfit-clause-takes
returns-in_err-note_misfit-clause-takes c = takes_on _ _ c.note_misfit.ensures.adds.keeps c.note_misfit.ensures.reads

pub returns-then-self-2-clause-takes : goal.returns-then-self-2-clause-takes
returns-then-self-2-clause-takes c = takes_on _ _ (keeps_then c.note_misfit.ensures.adds.keeps (keeps_if (λ text u. u.0) c.note_left.ensures)) c.note_misfit.ensures.reads

pub returns-clause-takes : goal.returns-clause-takes
returns-clause-takes c = takes_on _ _ (keeps_then c.note_misfit.ensures.adds.keeps (keeps_if (λ text u. u.0) (keeps_then c.note_left.ensures c.go_on.ensures))) c.note_misfit.ensures.reads

pub returns-clause-noted : goal.returns-clause-noted
returns-clause-noted c = on_ok c.go_on.result (omega (arith, c.in_ok-note_misfit.ensures.adds.noted, c.note_left.ensures.grows, c.go_on.ensures.grows))
