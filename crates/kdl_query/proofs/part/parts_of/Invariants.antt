use Rattle.std.proofs.Common.{◌≡◌, ◌++◌, map, length}
use Rattle.std.specs.List.{flat_map}
use Rattle.kdl_query.specs.Tree.{query_says, selector_says}
use Rattle.kdl_query.specs.Internal.Parts.{all_parts, part_says, query_parts}
use Rattle.kdl_query.proofs.part.parts_of.Given as goal

abbrev pub invariant-loop-selector : goal.invariant-loop-selector
invariant-loop-selector l = map part_says l.parts.items ++ flat_map all_parts (map selector_says l.rest) ≡ query_parts (query_says l.query)

abbrev pub decreases-loop-selector : goal.decreases-loop-selector
decreases-loop-selector l = length l.rest
