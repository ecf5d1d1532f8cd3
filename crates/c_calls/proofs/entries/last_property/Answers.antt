use Rattle.std.proofs.Common.{arith}
use Rattle.std.proofs.lemmas.Grind.{common_steps}
use Rattle.kdl_parts.proofs.EntryLookups.{last_place_push}
use Rattle.c_calls.proofs.entries.last_property.Goals.{then-is_property, else-is_property}
use Rattle.c_calls.proofs.entries.last_property.Goals as goal

pub loop-index-preserved : goal.loop-index-preserved
loop-index-preserved c =
    elim c.if-is_property.branch [ then-is_property w ↦ grind (arith, common_steps, last_place_push) | else-is_property w ↦ grind (arith, common_steps, last_place_push) ]
