use Rattle.std.proofs.Common.{◌≡◌, ◌&&◌, map, length}
use Rattle.std.specs.List.{list_any}
use Rattle.kdl.specs.Said.{has_no_key}
use Rattle.kdl_query.specs.Tree.{test_says}
use Rattle.kdl_query.specs.Internal.Holds.{passes_so, wanted_of}
use Rattle.kdl_query.proofs.Entries.{says}
use Rattle.kdl_query.proofs.test.some_argument.Given as goal

abbrev pub invariant-loop-entry : goal.invariant-loop-entry
invariant-loop-entry l = list_any (λ e. has_no_key e && passes_so (wanted_of (test_says l.test)) e) (map says l.rest) ≡ list_any (λ e. has_no_key e && passes_so (wanted_of (test_says l.test)) e) (map says l.entries)

abbrev pub decreases-loop-entry : goal.decreases-loop-entry
decreases-loop-entry l = length l.rest
