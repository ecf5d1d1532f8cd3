use Rattle.std.proofs.Common.{◌≡◌, map, length}
use Rattle.kdl_query.specs.Tree.{test_says}
use Rattle.kdl_query.specs.Internal.Holds.{any_property, passes_so, wanted_of}
use Rattle.kdl_query.proofs.Entries.{says}
use Rattle.kdl_query.proofs.test.some_property.Given as goal

abbrev pub invariant-loop-entry : goal.invariant-loop-entry
invariant-loop-entry l = any_property (passes_so (wanted_of (test_says l.test))) (map says l.rest) ≡ any_property (passes_so (wanted_of (test_says l.test))) (map says l.entries)

abbrev pub decreases-loop-entry : goal.decreases-loop-entry
decreases-loop-entry l = length l.rest
