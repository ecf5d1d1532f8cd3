use Rattle.std.proofs.Common.{◌≡◌, map, length}
use Rattle.std.specs.List.{list_all}
use Rattle.kdl.specs.Tree.{node_says}
use Rattle.kdl_query.specs.Tree.{test_says}
use Rattle.kdl_query.specs.Internal.Holds.{holds}
use Rattle.kdl_query.proofs.test.all_hold.Given as goal

abbrev pub invariant-loop-test : goal.invariant-loop-test
invariant-loop-test l = list_all (λ u. holds u (node_says l.node)) (map test_says l.rest) ≡ list_all (λ u. holds u (node_says l.node)) (map test_says l.tests)

abbrev pub decreases-loop-test : goal.decreases-loop-test
decreases-loop-test l = length l.rest
