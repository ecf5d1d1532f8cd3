use Rattle.std.proofs.Common.{◌≡◌, ◌-◌, ◌≤◌}
use Rattle.kdl_report.specs.Spots.{IsSpot, spot_text}
use Rattle.kdl_report.proofs.places.seek.Given as goal

abbrev pub invariant-loop-next : goal.invariant-loop-next
invariant-loop-next l = IsSpot l.spot × (spot_text l.spot ≡ spot_text l.fn.spot) × (l.spot.at ≤ l.offset)

abbrev pub decreases-loop-next : goal.decreases-loop-next
decreases-loop-next l = l.offset - l.spot.at
