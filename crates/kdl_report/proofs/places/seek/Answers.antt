use Rattle.std.proofs.Common.{subst}
use Rattle.kdl_report.specs.Spots.{IsSpotAt}
use Rattle.kdl_report.proofs.SpotSteps.{at_last}
use Rattle.kdl_report.proofs.places.seek.Goals as goal

pub returns : goal.returns
returns c =
    let i = c.loop-next.invariant in
    subst (λ t. IsSpotAt c.args.offset t c.loop-next.spot) i.1 (at_last c.args.offset c.loop-next.spot i.0 i.2 c.in_default.ensures)
