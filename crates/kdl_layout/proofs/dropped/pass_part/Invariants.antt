use Rattle.kdl_layout.proofs.Common.{length, chars, place_view, for_part, slashdash_in, control_view}
use Rattle.kdl_layout.proofs.Dropping.TokenLoop.{Goes}
use Rattle.kdl_layout.proofs.dropped.pass_part.Given as goal

abbrev pub invariant-tokens : goal.invariant-tokens
invariant-tokens l = Goes for_part (slashdash_in (place_view l.fn.place)) l.cursor (control_view l.control) (chars l.fn.text) l.last

abbrev pub decreases-tokens : goal.decreases-tokens
decreases-tokens l = length l.cursor.rest
