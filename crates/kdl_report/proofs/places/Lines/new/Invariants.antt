use Rattle.std.proofs.Common.{◌*◌, ◌≤◌, chars}
use Rattle.std.specs.List.{All}
use Rattle.kdl_report.specs.Spots.{IsSpotOf}
use Rattle.kdl_report.proofs.places.Lines.new.Given as goal

abbrev pub invariant-loop-k : goal.invariant-loop-k
invariant-loop-k l = All (IsSpotOf (chars l.text)) l.spots.items × IsSpotOf (chars l.text) l.spot × (l.spot.at ≤ l.k * 1024)
