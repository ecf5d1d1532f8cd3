use Rattle.std.proofs.Common.{refl}
use Rattle.kdl_text.proofs.RawStrings.ClosingPlaces.{counted, none_left}
use Rattle.kdl_text.proofs.Looking.SliceCost.{past_ran}
use Rattle.kdl_text.proofs.strings.raw.count_signs.Goals as goal

pub returns : goal.returns
returns c = record { reads = record { text = counted 35 _ _ _ _ refl c.skip.ensures c.at-start.ensures c.at.ensures; stops = none_left 35 c.skip.new.self.rest c.skip.ensures.1.stops }; past = past_ran c.skip.ensures.1 }
