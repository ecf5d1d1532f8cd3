use Rattle.kdl_text.proofs.Looking.SliceCost.{moves_ran, costs_ran}
use Rattle.kdl_text.proofs.Spacing.SpaceReads.{spaces_ran}
use Rattle.kdl_text.proofs.trivia.spaces.Goals as goal

pub returns : goal.returns
returns c = record { reads = spaces_ran c.skip.ensures.1; moves = moves_ran c.skip.ensures.1; costs = costs_ran c.skip.ensures.1 }
