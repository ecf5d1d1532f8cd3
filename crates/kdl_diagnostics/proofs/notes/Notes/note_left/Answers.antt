use Rattle.std.proofs.Common.{arith}
use Rattle.kdl_diagnostics.proofs.NotedSpans.{same_lies}
use Rattle.kdl_diagnostics.proofs.notes.Notes.note_left.Goals as goal

pub returns-in-Some-Left : goal.returns-in-Some-Left
returns-in-Some-Left c = record {
  notes = λ text x s. (record { whole = x.whole; left = same_lies text _ _ c.copied-self.ensures s.end; faults = x.faults; blocks = x.blocks; candidates = x.candidates });
  grows = omega arith;
}
