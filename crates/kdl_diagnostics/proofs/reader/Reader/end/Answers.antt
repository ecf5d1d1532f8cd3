use Rattle.std.proofs.Common.{refl}
use Rattle.kdl_diagnostics.proofs.Passing.{after_same}
use Rattle.kdl_diagnostics.proofs.ReaderCost.{goes_here, goes_same}
use Rattle.kdl_diagnostics.proofs.reader.Reader.end.Goals as goal

pub returns-then-self-clause-goes : goal.returns-then-self-clause-goes
returns-then-self-clause-goes c = goes_same 0 _

pub returns-then-is_due-clause-goes : goal.returns-then-is_due-clause-goes
returns-then-is_due-clause-goes c =
    goes_here _ _ refl (λ text x. let u = after_same text _ _ x.here.piece c.checkpoint-here.ensures.rest in (c.start_of-from.ensures text x.notes u, u)) c.note.ensures.keeps

pub returns-in-Some-clause-goes : goal.returns-in-Some-clause-goes
returns-in-Some-clause-goes c = goes_here _ _ refl (λ text x. let u = after_same text _ _ x.here.piece c.checkpoint-here.ensures.rest in (u, u)) c.note-in-Some.ensures.keeps

pub returns-clause-goes : goal.returns-clause-goes
returns-clause-goes c = goes_here _ _ refl (λ text x. tt) c.note_blocks.ensures.keeps
