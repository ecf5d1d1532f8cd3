use Rattle.std.proofs.Common.{◌^◌, ◌-ℤ◌}
use Rattle.kdl_query.specs.DecimalParts.{cut_at, IsWithin, Clamps}
use Rattle.kdl_query.proofs.decimal.difference.Given as goal

abbrev pub invariant-loop-place : goal.invariant-loop-place
invariant-loop-place l = IsWithin (2 ^ 104) l.difference × Clamps (2 ^ 100) l.difference (cut_at l.a l.place -ℤ cut_at l.b l.place)

-- proposed from the loop's first test
abbrev pub decreases-loop-place : goal.decreases-loop-place
decreases-loop-place l = l.place
