use Rattle.std.proofs.Common.{arith}
use Rattle.kdl_diagnostics.proofs.NotedSpans.{candidates_more, candidates_same}
use Rattle.kdl_diagnostics.proofs.notes.Notes.note_candidate.Goals as goal

pub returns-in_err-push : goal.returns-in_err-push
returns-in_err-push c = record {
  notes = λ text x u. (record { whole = x.whole; left = x.left; faults = x.faults; blocks = x.blocks; candidates = candidates_same text _ _ c.in_err-push.ensures.items x.candidates });
  grows = omega arith;
}

pub returns-in_ok-push : goal.returns-in_ok-push
returns-in_ok-push c = record {
  notes = λ text x u. (record { whole = x.whole; left = x.left; faults = x.faults; blocks = x.blocks; candidates = candidates_more text _ _ _ c.in_ok-push.ensures.items x.candidates (c.span-span.ensures text x u.1 (rw c.in-Some.is at u.0.backslash)) });
  grows = omega arith;
}
