use Rattle.std.proofs.Common.{ap, arith}
use Rattle.kdl_text.specs.Internal.Here.{Here}
use Rattle.kdl_text.specs.Spans.{bytes}
use Rattle.kdl_text.proofs.Looking.MovesJoin.{stays, moves_then, fewer_bytes}
use Rattle.kdl_diagnostics.specs.Internal.Reading.{GoesOn, Reads}
use Rattle.kdl_diagnostics.proofs.Passing.{after_same, end_here, if_lies, reads_more, reads_then, stepped_begins}
use Rattle.kdl_diagnostics.proofs.ends.end_at_backslash.Goals as goal

-- the backslash pays for what is not counted by bytes
step_on : {a b e : Here} → GoesOn 0 a b → Reads 12 12 b e → GoesOn 12 a e
step_on s r = record {
  reads = record { moves = moves_then s.reads.moves r.moves; most = omega (arith, s.reads.most, s.went, r.most) };
  went = omega (arith, s.went, fewer_bytes r.moves);
}

pub returns-then-is_some-clause-end : goal.returns-then-is_some-clause-end
returns-then-is_some-clause-end c =
    let m = (stepped_begins _ _ _ c.requires c.step.ensures).reads.moves in
    let p = c.checkpoint-place.ensures in
    record { ends = record { place = after_same _ _ _ m.piece p.rest; comment = if_lies _ _ _ m.piece c.ws_run-comment.ensures.comment }; at = omega (arith, p.at, ap bytes p.rest, m.at) }

pub returns-then-is_some-clause-goes : goal.returns-then-is_some-clause-goes
returns-then-is_some-clause-goes c = step_on (stepped_begins _ _ _ c.requires c.step.ensures) (reads_more 8 c.ws_run-comment.ensures.reads)

pub returns-then-escline_end-clause-end : goal.returns-then-escline_end-clause-end
returns-then-escline_end-clause-end c = end_here _ c.checkpoint-backslash.ensures.rest c.checkpoint-backslash.ensures.at (stays _)

pub returns-then-escline_end-clause-goes : goal.returns-then-escline_end-clause-goes
returns-then-escline_end-clause-goes c = step_on (stepped_begins _ _ _ c.requires c.step.ensures) (reads_then c.ws_run-comment.ensures.reads c.escline_end.ensures)

pub returns-then-at-clause-goes : goal.returns-then-at-clause-goes
returns-then-at-clause-goes c = step_on (stepped_begins _ _ _ c.requires c.step.ensures) (reads_then c.ws_run-comment.ensures.reads c.escline_end.ensures)

pub returns-clause-end : goal.returns-clause-end
returns-clause-end c = end_here _ c.checkpoint-place.ensures.rest c.checkpoint-place.ensures.at (stepped_begins _ _ _ c.requires c.step.ensures).reads.moves

pub returns-clause-goes : goal.returns-clause-goes
returns-clause-goes c = step_on (stepped_begins _ _ _ c.requires c.step.ensures) (reads_then c.ws_run-comment.ensures.reads c.escline_end.ensures)
