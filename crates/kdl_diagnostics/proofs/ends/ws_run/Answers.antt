use Rattle.std.proofs.Common.{arith}
use Rattle.kdl_text.specs.Internal.Here.{Here, Stayed}
use Rattle.kdl_text.specs.Internal.Reading.{Costs, Moves}
use Rattle.kdl_text.specs.Internal.TriviaReading.{PieceCosts}
use Rattle.kdl_text.proofs.Looking.MovesJoin.{moves_then, fewer_bytes}
use Rattle.kdl_diagnostics.specs.Internal.Reading.{GoesOn}
use Rattle.kdl_diagnostics.proofs.Passing.{after_same, goes_paid, reads_costs, reads_more, reads_stayed, reads_then, reads_up}
use Rattle.kdl_diagnostics.proofs.ends.ws_run.Goals as goal

-- past spaces and a comment
turn : {a b d e : Here} → Moves a b → Costs 1 1 a b → Stayed 2 b d → Moves d e → PieceCosts 9 d e → GoesOn 12 a e
turn m k s n p =
    let spaces = reads_then (reads_costs m k) (reads_stayed 1 s) in
    goes_paid (reads_then (reads_up 8 spaces) (reads_costs n p.costs)) (omega (arith, fewer_bytes spaces.moves, p.fewer))

pub returns-then-not-looks_two-clause-reads : goal.returns-then-not-looks_two-clause-reads
returns-then-not-looks_two-clause-reads c =
    let spaces = reads_costs c.spaces.ensures.moves c.spaces.ensures.costs in
    reads_more 1 (reads_then c.run.invariant (reads_up 11 (reads_then spaces (reads_stayed 1 c.looks_two.ensures.stayed))))

pub returns-then-not-block_comment-clause-comment : goal.returns-then-not-block_comment-clause-comment
returns-then-not-block_comment-clause-comment c = after_same _ _ _ (moves_then c.run.invariant.moves c.spaces.ensures.moves).piece c.checkpoint-start.ensures.rest

pub returns-then-not-block_comment-clause-reads : goal.returns-then-not-block_comment-clause-reads
returns-then-not-block_comment-clause-reads c =
    reads_more 4 (reads_then c.run.invariant (turn c.spaces.ensures.moves c.spaces.ensures.costs c.looks_two.ensures.stayed c.block_comment.ensures.moves c.block_comment.ensures.costs).reads)

pub run-smaller : goal.run-smaller
run-smaller c = (turn c.spaces.ensures.moves c.spaces.ensures.costs c.looks_two.ensures.stayed c.block_comment.ensures.moves c.block_comment.ensures.costs).went

pub run-preserved : goal.run-preserved
run-preserved c = reads_then c.run.invariant (turn c.spaces.ensures.moves c.spaces.ensures.costs c.looks_two.ensures.stayed c.block_comment.ensures.moves c.block_comment.ensures.costs).reads
