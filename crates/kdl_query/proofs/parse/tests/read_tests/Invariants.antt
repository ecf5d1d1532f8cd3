use Rattle.std.proofs.Common.{length, map}
use Rattle.kdl_text.specs.Internal.Reading.{Goes, Moves}
use Rattle.kdl_query.specs.QueryText.{AreTests}
use Rattle.kdl_query.specs.Tree.{test_says}
use Rattle.kdl_query.proofs.parse.tests.read_tests.Given as goal

abbrev pub invariant-tests : goal.invariant-tests
invariant-tests l = record {
  goes : Goes AreTests l.initial.cursor.rest (map test_says l.tests.items) l.cursor.rest;
  moves : Moves l.initial.cursor l.cursor;
}

abbrev pub decreases-tests : goal.decreases-tests
decreases-tests l = length l.cursor.rest
