use Rattle.std.proofs.Common.{◌≡◌}
use Rattle.kdl_query.specs.DecimalParts.{cut_at}
use Rattle.kdl_query.proofs.decimal.whole_order.Given as goal

abbrev pub invariant-loop-place : goal.invariant-loop-place
invariant-loop-place l = cut_at l.a l.place ≡ cut_at l.b l.place

-- proposed from the loop's first test
abbrev pub decreases-loop-place : goal.decreases-loop-place
decreases-loop-place l = l.place
