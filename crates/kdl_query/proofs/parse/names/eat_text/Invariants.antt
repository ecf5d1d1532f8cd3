use Rattle.std.proofs.Common.{length}
use Rattle.kdl_query.proofs.Reading.{AteSoFar}
use Rattle.kdl_query.proofs.parse.names.eat_text.Given as goal

abbrev pub invariant-bytes : goal.invariant-bytes
invariant-bytes l = AteSoFar l.initial.cursor l.cursor l.text l.rest

abbrev pub decreases-bytes : goal.decreases-bytes
decreases-bytes l = length l.rest
