use Rattle.std.proofs.Common.{arith}
use Rattle.kdl_text.proofs.Looking.SliceCost.{past_then, past_two, past_more, past_both, past_stayed, past_look}
use Rattle.kdl_text.proofs.Spacing.SpaceReads.{end_comment, end_newline, end_text, end_none}
use Rattle.kdl_text.proofs.trivia.escline_end.Goals as goal

pub returns-then-eat_two : goal.returns-then-eat_two
returns-then-eat_two c = record {
  reads = end_comment _ _ _ c.if-eat_two.ensures c.line_end.ensures.reads;
  past = past_more (omega arith) (past_then (past_two (past_both c.if-eat_two.ensures)) c.line_end.ensures.past);
}

pub returns-then-newline : goal.returns-then-newline
returns-then-newline c =
    let n = c.newline.ensures in
    record {
      reads = end_newline _ _ _ c.if-eat_two.ensures.1 c.if-newline.ensures.reads;
      past = past_more (omega arith) (past_then (past_two (past_stayed c.if-eat_two.ensures.1)) (record { moves = n.moves; costs = n.costs }));
    }

pub returns-in-None : goal.returns-in-None
returns-in-None c =
    let two = c.if-eat_two.ensures.1 in
    let one = c.if-newline.ensures.reads.0 in
    record {
      reads = end_text _ _ _ _ two one c.in-None.ensures.result c.look.ensures.moved;
      past = past_two (past_then (past_stayed two) (past_then (past_stayed one) (past_look c.look.ensures.moved)));
    }

pub returns-in-Some : goal.returns-in-Some
returns-in-Some c =
    let two = c.if-eat_two.ensures.1 in
    let one = c.if-newline.ensures.reads.0 in
    record {
      reads = end_none _ _ _ _ c.if-eat_two.ensures c.if-newline.ensures.reads c.in-Some.ensures.result;
      past = past_two (past_then (past_stayed two) (past_then (past_stayed one) (past_look c.look.ensures.moved)));
    }
