use Rattle.std.proofs.Common.{refl}
use Rattle.kdl_text.proofs.Looking.MovesJoin.{moves_then, moves_one, moves_two}
use Rattle.kdl_query.specs.QueryText.{IsOperator}
use Rattle.kdl_query.proofs.Reading.{one_at, two_at, still_looked, still_stayed, still_then}
use Rattle.kdl_query.proofs.Selecting.{child_here, next_here}
use Rattle.kdl_query.proofs.parse.selectors.eat_operator.Goals as goal

pub returns-then-eat_two-clause-finds : goal.returns-then-eat_two-clause-finds
returns-then-eat_two-clause-finds c = rw (c.if-eat_two.ensures.rest) IsOperator.descendant

pub returns-then-eat_two-clause-moves : goal.returns-then-eat_two-clause-moves
returns-then-eat_two-clause-moves c = moves_two c.if-eat_two.ensures

pub returns-then-eat-clause-finds : goal.returns-then-eat-clause-finds
returns-then-eat-clause-finds c = child_here _ _ _ (one_at (still_stayed c.if-eat_two.ensures.1) c.if-eat.ensures) refl c.if-eat_two.ensures.0

pub returns-then-eat-clause-moves : goal.returns-then-eat-clause-moves
returns-then-eat-clause-moves c = moves_then (still_stayed c.if-eat_two.ensures.1).moves (moves_one c.if-eat.ensures)

pub returns-then-eat_two-2-clause-finds : goal.returns-then-eat_two-2-clause-finds
returns-then-eat_two-2-clause-finds c = rw (two_at (still_then (still_stayed c.if-eat_two.ensures.1) (still_looked c.if-eat.ensures.1)) c.if-eat_two-2.ensures) IsOperator.later_sibling

pub returns-then-eat_two-2-clause-moves : goal.returns-then-eat_two-2-clause-moves
returns-then-eat_two-2-clause-moves c = moves_then (still_then (still_stayed c.if-eat_two.ensures.1) (still_looked c.if-eat.ensures.1)).moves (moves_two c.if-eat_two-2.ensures)

pub returns-then-eat-2-clause-finds : goal.returns-then-eat-2-clause-finds
returns-then-eat-2-clause-finds c = next_here _ _ _ (one_at (still_then (still_then (still_stayed c.if-eat_two.ensures.1) (still_looked c.if-eat.ensures.1)) (still_stayed c.if-eat_two-2.ensures.1)) c.if-eat-2.ensures) (still_then (still_stayed c.if-eat_two.ensures.1) (still_looked c.if-eat.ensures.1)).rest c.if-eat_two-2.ensures.0

pub returns-then-eat-2-clause-moves : goal.returns-then-eat-2-clause-moves
returns-then-eat-2-clause-moves c = moves_then (still_then (still_then (still_stayed c.if-eat_two.ensures.1) (still_looked c.if-eat.ensures.1)) (still_stayed c.if-eat_two-2.ensures.1)).moves (moves_one c.if-eat-2.ensures)
