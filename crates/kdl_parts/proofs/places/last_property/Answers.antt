use Rattle.kdl_parts.proofs.Common.{arith, common_steps}
use Rattle.kdl_parts.proofs.EntryLookups.{last_place_push}
use Rattle.kdl_parts.proofs.places.last_property.Goals.{then-is_property, else-is_property}
use Rattle.kdl_parts.proofs.places.last_property.Goals as goal

pub loop-i-preserved : goal.loop-i-preserved
loop-i-preserved c =
    elim c.if-is_property.branch [ then-is_property w ↦ grind (arith, common_steps, last_place_push) | else-is_property w ↦ grind (arith, common_steps, last_place_push) ]
