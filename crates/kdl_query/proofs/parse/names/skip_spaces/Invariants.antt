use Rattle.std.proofs.Common.{length}
use Rattle.kdl_query.specs.QueryText.{QuerySpace}
use Rattle.kdl_query.proofs.Spacing.{SoFar}
use Rattle.kdl_query.proofs.parse.names.skip_spaces.Given as goal

abbrev pub invariant-spaces : goal.invariant-spaces
invariant-spaces l = SoFar QuerySpace l.initial.cursor l.cursor

abbrev pub decreases-spaces : goal.decreases-spaces
decreases-spaces l = length l.cursor.rest
