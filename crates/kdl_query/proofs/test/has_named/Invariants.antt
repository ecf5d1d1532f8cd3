use Rattle.std.proofs.Common.{◌≡◌, map, length}
use Rattle.std.specs.List.{list_any}
use Rattle.std.specs.Str.{chars}
use Rattle.kdl.specs.Said.{has_key}
use Rattle.kdl_query.proofs.Entries.{says}
use Rattle.kdl_query.proofs.test.has_named.Given as goal

abbrev pub invariant-loop-entry : goal.invariant-loop-entry
invariant-loop-entry l = list_any (has_key (chars l.name)) (map says l.rest) ≡ list_any (has_key (chars l.name)) (map says l.entries)

abbrev pub decreases-loop-entry : goal.decreases-loop-entry
decreases-loop-entry l = length l.rest
