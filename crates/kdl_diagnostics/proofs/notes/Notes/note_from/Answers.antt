use Rattle.std.proofs.Common.{rules}
use Rattle.kdl_diagnostics.proofs.NotedSpans.{keeps_if, keeps_then}
use Rattle.kdl_diagnostics.proofs.notes.Notes.note_from.Goals as goal

pub returns-in_err-note_candidate : goal.returns-in_err-note_candidate
returns-in_err-note_candidate c = record { keeps = c.note_candidate.ensures; noted = search rules }

pub returns : goal.returns
returns c = record { keeps = keeps_then c.note_candidate.ensures (keeps_if (λ text u. (u.1, u.0.end)) c.note.ensures.keeps); noted = c.note.ensures.noted }
