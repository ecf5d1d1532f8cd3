use Rattle.kdl_text.proofs.Looking.MovesJoin.{moves_then, moves_two}
use Rattle.kdl_text.proofs.Spacing.SpaceReads.{ate_two_here, block_reads}
use Rattle.kdl_text.proofs.trivia.block_comment.Goals as goal

pub returns-clause-reads : goal.returns-clause-reads
returns-clause-reads c = block_reads _ _ _ _ (ate_two_here _ _ _ _ _ c.requires c.eat_two.ensures) c.block_end.ensures.parts.reads

pub returns-clause-moves : goal.returns-clause-moves
returns-clause-moves c = moves_then (moves_two (ate_two_here _ _ _ _ _ c.requires c.eat_two.ensures)) c.block_end.ensures.parts.past.moves
