use Rattle.std.proofs.Common.{◌≡◌, map, length, option_map}
use Rattle.std.specs.List.{filter, last_or}
use Rattle.std.specs.Str.{chars}
use Rattle.kdl.specs.Said.{has_key, last_property}
use Rattle.kdl.specs.Tree.{node_says}
use Rattle.kdl_query.proofs.Entries.{says}
use Rattle.kdl_query.proofs.test.property.Given as goal

abbrev pub invariant-loop-entry : goal.invariant-loop-entry
invariant-loop-entry l = last_or (option_map (λ e. says e.now) l.found) (filter (has_key (chars l.name)) (map says l.rest)) ≡ last_property (chars l.name) (node_says l.node)

abbrev pub decreases-loop-entry : goal.decreases-loop-entry
decreases-loop-entry l = length l.rest
