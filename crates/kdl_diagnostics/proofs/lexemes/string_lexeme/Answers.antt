use Rattle.std.proofs.Common.{arith}
use Rattle.kdl_text.proofs.Looking.MovesJoin.{moves_then, fewer_bytes}
use Rattle.kdl_diagnostics.proofs.LexemeMoves.{found_in_phase}
use Rattle.kdl_diagnostics.proofs.Passing.{since_bytes, since_moves}
use Rattle.kdl_diagnostics.proofs.lexemes.string_lexeme.Goals as goal

pub returns-in_err-found-clause-reads : goal.returns-in_err-found-clause-reads
returns-in_err-found-clause-reads c =
    let s = c.scan_string.ensures.reads in
    record { moves = s.moves; most = omega (arith, s.most, fewer_bytes s.moves, since_bytes c.requires.start) }

pub faulty_string-requires-clause-start : goal.faulty_string-requires-clause-start
faulty_string-requires-clause-start c =
    let s = c.scan_string.ensures in
    record { since = since_moves c.requires.start s.reads.moves; went = omega (arith, s.went, since_bytes c.requires.start) }

pub faulty_string-requires-clause-found : goal.faulty_string-requires-clause-found
faulty_string-requires-clause-found c =
    rw c.in-Some.is at (found_in_phase _ _ (since_moves c.requires.start c.scan_string.ensures.reads.moves) c.in_ok-found.ensures.fault c.fault_in_phase.ensures)

pub word-requires : goal.word-requires
word-requires c =
    let s = c.scan_string.ensures in
    record { since = since_moves c.requires.start s.reads.moves; went = omega (arith, s.went, since_bytes c.requires.start) }

pub returns-in-Some-clause-reads : goal.returns-in-Some-clause-reads
returns-in-Some-clause-reads c =
    let s = c.scan_string.ensures.reads in
    let r = c.faulty_string.ensures.reads in
    record { moves = moves_then s.moves r.moves; most = omega (arith, s.most, r.most, since_bytes c.requires.start, fewer_bytes s.moves, fewer_bytes r.moves) }

pub returns-in-None-clause-reads : goal.returns-in-None-clause-reads
returns-in-None-clause-reads c =
    let s = c.scan_string.ensures.reads in
    let r = c.word.ensures.reads in
    record { moves = moves_then s.moves r.moves; most = omega (arith, s.most, r.most, since_bytes c.requires.start, fewer_bytes s.moves, fewer_bytes r.moves) }
