use Rattle.std.proofs.Common.{refl}
use Rattle.kdl_diagnostics.proofs.NotedSpans.{stands_in}
use Rattle.kdl_diagnostics.proofs.Passing.{after_same}
use Rattle.kdl_diagnostics.proofs.ReaderCost.{goes_next, goes_noted}
use Rattle.kdl_diagnostics.proofs.reader.Reader.read_identifier.Goals as goal

pub returns-in_err-lexeme-clause-goes : goal.returns-in_err-lexeme-clause-goes
returns-in_err-lexeme-clause-goes c = goes_next _ _ refl c.next_lexeme.ensures.reads

pub returns-in-None-clause-goes : goal.returns-in-None-clause-goes
returns-in-None-clause-goes c = goes_noted _ _ c.next_lexeme.ensures.reads (λ text q. let u = after_same text _ _ q c.checkpoint-start.ensures.rest in (u, u)) c.note.ensures.keeps

pub returns-then-not-matches-clause-goes : goal.returns-then-not-matches-clause-goes
returns-then-not-matches-clause-goes c = goes_noted _ _ c.next_lexeme.ensures.reads (λ text q. let u = after_same text _ _ q c.checkpoint-start.ensures.rest in (u, u)) c.note-then-not-matches.ensures.keeps

pub returns-in-Some-fault-clause-goes : goal.returns-in-Some-fault-clause-goes
returns-in-Some-fault-clause-goes c =
    goes_noted _ _ c.next_lexeme.ensures.reads (λ text q. (stands_in text _ c.in-Some.lexeme q (rw c.in-Some.is at c.in_ok-lexeme.ensures.lexeme).stands, after_same text _ _ q c.checkpoint-start.ensures.rest)) c.note_from.ensures.keeps

pub returns-clause-goes : goal.returns-clause-goes
returns-clause-goes c = goes_noted _ _ c.next_lexeme.ensures.reads (λ text q. let u = (stands_in text _ c.in-Some.lexeme q (rw c.in-Some.is at c.in_ok-lexeme.ensures.lexeme).stands).end in (u, u)) c.note-2.ensures.keeps
