use Rattle.kdl_parts.proofs.Common.{◌∙◌}
use Rattle.kdl_parts.proofs.EntryLookups.{name_compared}
use Rattle.kdl_parts.proofs.places.is_property.Goals as goal

pub returns-in-Some : goal.returns-in-Some
returns-in-Some c = c.eq.ensures ∙ name_compared c.args.entry.now.name c.in-Some.key.now c.value.result.now c.args.name.now c.in-Some.ensures c.value.utf8 c.value.ensures
