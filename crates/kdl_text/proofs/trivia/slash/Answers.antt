use Rattle.std.proofs.Common.{refl, true}
use Rattle.kdl_text.proofs.Looking.MovesJoin.{moves_then, moves_two, moves_stayed}
use Rattle.kdl_text.proofs.Spacing.SpaceReads.{block_reads, opens_here, stayed_line}
use Rattle.kdl_text.proofs.trivia.slash.Goals as goal

pub returns-then-block_end-clause-reads : goal.returns-then-block_end-clause-reads
returns-then-block_end-clause-reads c = rw (← c.take_over-here.ensures.result) (block_reads true _ _ c.block_end.new.cursor.rest c.if-eat_two.ensures c.if-block_end.ensures.parts.reads)

pub returns-then-block_end-clause-moves : goal.returns-then-block_end-clause-moves
returns-then-block_end-clause-moves c = rw (← c.take_over-here.ensures.result) (moves_then (moves_two c.if-eat_two.ensures) c.if-block_end.ensures.parts.past.moves)

pub returns-else-block_end-clause-reads : goal.returns-else-block_end-clause-reads
returns-else-block_end-clause-reads c = rw (← c.take_over-here.ensures.result) ((opens_here _ _ c.block_end.new.cursor.rest c.if-eat_two.ensures c.if-block_end.ensures.parts.reads, c.if-block_end.ensures.ended refl))

pub returns-else-block_end-clause-moves : goal.returns-else-block_end-clause-moves
returns-else-block_end-clause-moves c = rw (← c.take_over-here.ensures.result) (moves_then (moves_two c.if-eat_two.ensures) c.if-block_end.ensures.parts.past.moves)

pub returns-then-eat_two-2-clause-reads : goal.returns-then-eat_two-2-clause-reads
returns-then-eat_two-2-clause-reads c = rw (← c.take_over-here.ensures.result) (stayed_line _ _ _ _ _ c.if-eat_two.ensures.1 c.if-eat_two-2.ensures c.line_end.ensures.reads)

pub returns-then-eat_two-2-clause-moves : goal.returns-then-eat_two-2-clause-moves
returns-then-eat_two-2-clause-moves c = rw (← c.take_over-here.ensures.result) (moves_then (moves_stayed c.if-eat_two.ensures.1) (moves_then (moves_two c.if-eat_two-2.ensures) c.line_end.ensures.past.moves))

pub returns-then-eat_two-3-clause-moves : goal.returns-then-eat_two-3-clause-moves
returns-then-eat_two-3-clause-moves c = rw (← c.take_over-here.ensures.result) (moves_then (moves_stayed c.if-eat_two.ensures.1) (moves_then (moves_stayed c.if-eat_two-2.ensures.1) (moves_two c.if-eat_two-3.ensures)))
