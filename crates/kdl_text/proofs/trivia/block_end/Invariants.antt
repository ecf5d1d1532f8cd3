use Rattle.std.proofs.Common.{length}
use Rattle.kdl_text.proofs.Spacing.CommentLoop.{Inside}
use Rattle.kdl_text.proofs.trivia.block_end.Given as goal

abbrev pub invariant-parts : goal.invariant-parts
invariant-parts l = Inside l.fn.cursor l.depth l.here

abbrev pub decreases-parts : goal.decreases-parts
decreases-parts l = length l.here.rest
