use Rattle.std.proofs.Common.{length, map}
use Rattle.kdl_text.specs.Internal.Reading.{Moves}
use Rattle.kdl_query.specs.Tree.{selector_says}
use Rattle.kdl_query.proofs.Selecting.{QueriesSoFar}
use Rattle.kdl_query.proofs.parse.selectors.read_selectors.Given as goal

abbrev pub invariant-selectors : goal.invariant-selectors
invariant-selectors l = record {
  queries : QueriesSoFar l.fn.cursor.rest l.cursor.rest (map selector_says l.selectors.items);
  moves : Moves l.fn.cursor l.cursor;
}

abbrev pub decreases-selectors : goal.decreases-selectors
decreases-selectors l = length l.cursor.rest
