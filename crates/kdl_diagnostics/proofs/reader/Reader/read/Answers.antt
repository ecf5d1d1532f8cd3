use Rattle.std.proofs.Common.{refl, arith}
use Rattle.kdl_text.proofs.Looking.MovesJoin.{fewer_bytes}
use Rattle.kdl_diagnostics.proofs.FrontEnds.{if_ok}
use Rattle.kdl_diagnostics.proofs.NotedSpans.{moved_here}
use Rattle.kdl_diagnostics.proofs.Passing.{reads_here, reads_more}
use Rattle.kdl_diagnostics.proofs.ReaderCost.{goes_ended, had, taken, turn_ends, turn_reads}
use Rattle.kdl_diagnostics.proofs.reader.Reader.read.Goals as goal

pub lexemes-init : goal.lexemes-init
lexemes-init c = record { keeps = λ text x. x; grows = omega arith; reads = reads_here 124 _; ready = λ s e. s }

pub returns-in_err-lexeme-clause-goes : goal.returns-in_err-lexeme-clause-goes
returns-in_err-lexeme-clause-goes c = record {
  keeps = λ text x p. (let y = c.lexemes.invariant.keeps text x in record { here = moved_here y.here c.next_lexeme.ensures.reads.moves; notes = y.notes });
  grows = c.lexemes.invariant.grows;
  counted = turn_ends c.lexemes.invariant.reads c.next_lexeme.ensures.reads (reads_more 24 (reads_here 24 _));
}

pub returns-in-None-clause-goes : goal.returns-in-None-clause-goes
returns-in-None-clause-goes c = goes_ended c.lexemes.invariant.keeps c.lexemes.invariant.grows c.lexemes.invariant.reads refl c.next_lexeme.ensures.reads c.end.ensures.goes

pub returns-in-None-clause-noted : goal.returns-in-None-clause-noted
returns-in-None-clause-noted c =
    let n = rw c.in-None.is at c.in_ok-lexeme.ensures.lexeme in
    if_ok c.end.result (λ x f s. had _ _ (λ e. f (let l = c.lexemes.invariant.ready s e n in record { lacks = l.lacks; untold = l.untold; cut = l.cut })) c.end.ensures.goes.grows) c.end.ensures.noted

pub returns-in_err-take-clause-goes : goal.returns-in_err-take-clause-goes
returns-in_err-take-clause-goes c = record {
  keeps = λ text x p. taken _ _ _ c.in-Some.lexeme text (c.lexemes.invariant.keeps text x) refl c.next_lexeme.ensures.reads (rw c.in-Some.is at c.in_ok-lexeme.ensures.lexeme).stands c.take.ensures.takes;
  grows = omega (arith, c.lexemes.invariant.grows, c.take.ensures.takes.grows);
  counted = turn_ends c.lexemes.invariant.reads c.next_lexeme.ensures.reads c.take.ensures.takes.reads;
}

pub returns-then-self-clause-goes : goal.returns-then-self-clause-goes
returns-then-self-clause-goes c = record {
  keeps = λ text x p. taken _ _ _ c.in-Some.lexeme text (c.lexemes.invariant.keeps text x) refl c.next_lexeme.ensures.reads (rw c.in-Some.is at c.in_ok-lexeme.ensures.lexeme).stands c.take.ensures.takes;
  grows = omega (arith, c.lexemes.invariant.grows, c.take.ensures.takes.grows);
  counted = turn_ends c.lexemes.invariant.reads c.next_lexeme.ensures.reads c.take.ensures.takes.reads;
}

pub returns-then-self-clause-noted : goal.returns-then-self-clause-noted
returns-then-self-clause-noted c s = had _ _ c.in_ok-take.ensures.noted c.take.ensures.takes.grows

pub lexemes-smaller : goal.lexemes-smaller
lexemes-smaller c = omega (arith, (rw c.in-Some.is at c.in_ok-lexeme.ensures.lexeme).went, fewer_bytes c.take.ensures.takes.reads.moves)

pub lexemes-preserved : goal.lexemes-preserved
lexemes-preserved c = record {
  keeps = λ text x. taken _ _ _ c.in-Some.lexeme text (c.lexemes.invariant.keeps text x) refl c.next_lexeme.ensures.reads (rw c.in-Some.is at c.in_ok-lexeme.ensures.lexeme).stands c.take.ensures.takes;
  grows = omega (arith, c.lexemes.invariant.grows, c.take.ensures.takes.grows);
  reads = turn_reads c.lexemes.invariant.reads c.next_lexeme.ensures.reads (rw c.in-Some.is at c.in_ok-lexeme.ensures.lexeme).went c.take.ensures.takes.reads;
  ready = λ s n. absurd (omega (arith, had _ _ c.in_ok-take.ensures.noted c.take.ensures.takes.grows, n));
}
