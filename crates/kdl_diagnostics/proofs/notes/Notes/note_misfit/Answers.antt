use Rattle.kdl_diagnostics.proofs.NotedSpans.{keeps_if}
use Rattle.kdl_diagnostics.proofs.Passing.{after_then, reads_more}
use Rattle.kdl_diagnostics.proofs.notes.Notes.note_misfit.Goals as goal

pub returns-in-Misplaced-clause-adds : goal.returns-in-Misplaced-clause-adds
returns-in-Misplaced-clause-adds c = record { keeps = keeps_if (λ text u. (u.0.start, u.0.start)) c.note.ensures.keeps; noted = c.note.ensures.noted }

pub returns-in-Some-Left-clause-adds : goal.returns-in-Some-Left-clause-adds
returns-in-Some-Left-clause-adds c = record {
  keeps = record {
    notes = λ text x u. c.note-in-Some-Left.ensures.keeps.notes text x (c.start_of-from.ensures text x u.0.start, after_then text _ _ u.1.piece c.value_end-end.ensures.end.ends.place);
    grows = c.note-in-Some-Left.ensures.keeps.grows;
  };
  noted = c.note-in-Some-Left.ensures.noted;
}

pub returns-in-Some-Left-clause-reads : goal.returns-in-Some-Left-clause-reads
returns-in-Some-Left-clause-reads c = reads_more 12 c.value_end-end.ensures.reads

pub returns-clause-adds : goal.returns-clause-adds
returns-clause-adds c = record {
  keeps = record {
    notes = λ text x u. c.note_from.ensures.keeps.notes text x (u.0, c.start_of-from.ensures text x u.0.start);
    grows = c.note_from.ensures.keeps.grows;
  };
  noted = c.note_from.ensures.noted;
}
