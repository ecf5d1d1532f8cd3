use Rattle.std.proofs.Common.{◌∙◌, rules}
use Rattle.kdl.specs.Words.{entry_name_of}
use Rattle.kdl_parts.proofs.EntryLookups.{name_compared}
use Rattle.c_calls.proofs.entries.is_property.Goals as goal

pub returns-in-Some : goal.returns-in-Some
returns-in-Some c = c.eq.ensures ∙ name_compared (entry_name_of c.args.entry.now) c.in-Some.key.now c.value.result.now c.args.name.now (search rules) c.value.utf8 c.value.ensures
