use Rattle.kdl_text.proofs.Looking.MovesJoin.{moves_then, moves_one, moves_two}
use Rattle.kdl_query.specs.QueryText.{IsComparison}
use Rattle.kdl_query.proofs.Reading.{one_at, two_at, still_looked, still_stayed, still_then}
use Rattle.kdl_query.proofs.Testing.{greater_here, less_here}
use Rattle.kdl_query.proofs.parse.literals.eat_comparison.Goals as goal

pub returns-then-eat-clause-finds : goal.returns-then-eat-clause-finds
returns-then-eat-clause-finds c = rw (c.if-eat.ensures.0) IsComparison.equal

pub returns-then-eat-clause-moves : goal.returns-then-eat-clause-moves
returns-then-eat-clause-moves c = moves_one c.if-eat.ensures

pub returns-then-eat_two-clause-finds : goal.returns-then-eat_two-clause-finds
returns-then-eat_two-clause-finds c = rw (two_at (still_looked c.if-eat.ensures.1) c.if-eat_two.ensures) IsComparison.not_equal

pub returns-then-eat_two-clause-moves : goal.returns-then-eat_two-clause-moves
returns-then-eat_two-clause-moves c = moves_then (still_looked c.if-eat.ensures.1).moves (moves_two c.if-eat_two.ensures)

pub returns-then-eat_two-2-clause-finds : goal.returns-then-eat_two-2-clause-finds
returns-then-eat_two-2-clause-finds c = rw (two_at (still_then (still_looked c.if-eat.ensures.1) (still_stayed c.if-eat_two.ensures.1)) c.if-eat_two-2.ensures) IsComparison.greater_or_equal

pub returns-then-eat_two-2-clause-moves : goal.returns-then-eat_two-2-clause-moves
returns-then-eat_two-2-clause-moves c = moves_then (still_then (still_looked c.if-eat.ensures.1) (still_stayed c.if-eat_two.ensures.1)).moves (moves_two c.if-eat_two-2.ensures)

pub returns-then-eat-2-clause-finds : goal.returns-then-eat-2-clause-finds
returns-then-eat-2-clause-finds c = greater_here _ _ _ (one_at (still_then (still_then (still_looked c.if-eat.ensures.1) (still_stayed c.if-eat_two.ensures.1)) (still_stayed c.if-eat_two-2.ensures.1)) c.if-eat-2.ensures) (still_then (still_looked c.if-eat.ensures.1) (still_stayed c.if-eat_two.ensures.1)).rest c.if-eat_two-2.ensures.0

pub returns-then-eat-2-clause-moves : goal.returns-then-eat-2-clause-moves
returns-then-eat-2-clause-moves c = moves_then (still_then (still_then (still_looked c.if-eat.ensures.1) (still_stayed c.if-eat_two.ensures.1)) (still_stayed c.if-eat_two-2.ensures.1)).moves (moves_one c.if-eat-2.ensures)

pub returns-then-eat_two-3-clause-finds : goal.returns-then-eat_two-3-clause-finds
returns-then-eat_two-3-clause-finds c = rw (two_at (still_then (still_then (still_then (still_looked c.if-eat.ensures.1) (still_stayed c.if-eat_two.ensures.1)) (still_stayed c.if-eat_two-2.ensures.1)) (still_looked c.if-eat-2.ensures.1)) c.if-eat_two-3.ensures) IsComparison.less_or_equal

pub returns-then-eat_two-3-clause-moves : goal.returns-then-eat_two-3-clause-moves
returns-then-eat_two-3-clause-moves c = moves_then (still_then (still_then (still_then (still_looked c.if-eat.ensures.1) (still_stayed c.if-eat_two.ensures.1)) (still_stayed c.if-eat_two-2.ensures.1)) (still_looked c.if-eat-2.ensures.1)).moves (moves_two c.if-eat_two-3.ensures)

pub returns-then-eat-3-clause-finds : goal.returns-then-eat-3-clause-finds
returns-then-eat-3-clause-finds c = less_here _ _ _ (one_at (still_then (still_then (still_then (still_then (still_looked c.if-eat.ensures.1) (still_stayed c.if-eat_two.ensures.1)) (still_stayed c.if-eat_two-2.ensures.1)) (still_looked c.if-eat-2.ensures.1)) (still_stayed c.if-eat_two-3.ensures.1)) c.if-eat-3.ensures) (still_then (still_then (still_then (still_looked c.if-eat.ensures.1) (still_stayed c.if-eat_two.ensures.1)) (still_stayed c.if-eat_two-2.ensures.1)) (still_looked c.if-eat-2.ensures.1)).rest c.if-eat_two-3.ensures.0

pub returns-then-eat-3-clause-moves : goal.returns-then-eat-3-clause-moves
returns-then-eat-3-clause-moves c = moves_then (still_then (still_then (still_then (still_then (still_looked c.if-eat.ensures.1) (still_stayed c.if-eat_two.ensures.1)) (still_stayed c.if-eat_two-2.ensures.1)) (still_looked c.if-eat-2.ensures.1)) (still_stayed c.if-eat_two-3.ensures.1)).moves (moves_one c.if-eat-3.ensures)

pub returns-then-eat_two-4-clause-finds : goal.returns-then-eat_two-4-clause-finds
returns-then-eat_two-4-clause-finds c = rw (two_at (still_then (still_then (still_then (still_then (still_then (still_looked c.if-eat.ensures.1) (still_stayed c.if-eat_two.ensures.1)) (still_stayed c.if-eat_two-2.ensures.1)) (still_looked c.if-eat-2.ensures.1)) (still_stayed c.if-eat_two-3.ensures.1)) (still_looked c.if-eat-3.ensures.1)) c.if-eat_two-4.ensures) IsComparison.starts_with

pub returns-then-eat_two-4-clause-moves : goal.returns-then-eat_two-4-clause-moves
returns-then-eat_two-4-clause-moves c = moves_then (still_then (still_then (still_then (still_then (still_then (still_looked c.if-eat.ensures.1) (still_stayed c.if-eat_two.ensures.1)) (still_stayed c.if-eat_two-2.ensures.1)) (still_looked c.if-eat-2.ensures.1)) (still_stayed c.if-eat_two-3.ensures.1)) (still_looked c.if-eat-3.ensures.1)).moves (moves_two c.if-eat_two-4.ensures)

pub returns-then-eat_two-5-clause-finds : goal.returns-then-eat_two-5-clause-finds
returns-then-eat_two-5-clause-finds c = rw (two_at (still_then (still_then (still_then (still_then (still_then (still_then (still_looked c.if-eat.ensures.1) (still_stayed c.if-eat_two.ensures.1)) (still_stayed c.if-eat_two-2.ensures.1)) (still_looked c.if-eat-2.ensures.1)) (still_stayed c.if-eat_two-3.ensures.1)) (still_looked c.if-eat-3.ensures.1)) (still_stayed c.if-eat_two-4.ensures.1)) c.if-eat_two-5.ensures) IsComparison.ends_with

pub returns-then-eat_two-5-clause-moves : goal.returns-then-eat_two-5-clause-moves
returns-then-eat_two-5-clause-moves c = moves_then (still_then (still_then (still_then (still_then (still_then (still_then (still_looked c.if-eat.ensures.1) (still_stayed c.if-eat_two.ensures.1)) (still_stayed c.if-eat_two-2.ensures.1)) (still_looked c.if-eat-2.ensures.1)) (still_stayed c.if-eat_two-3.ensures.1)) (still_looked c.if-eat-3.ensures.1)) (still_stayed c.if-eat_two-4.ensures.1)).moves (moves_two c.if-eat_two-5.ensures)

pub returns-then-eat_two-6-clause-finds : goal.returns-then-eat_two-6-clause-finds
returns-then-eat_two-6-clause-finds c = rw (two_at (still_then (still_then (still_then (still_then (still_then (still_then (still_then (still_looked c.if-eat.ensures.1) (still_stayed c.if-eat_two.ensures.1)) (still_stayed c.if-eat_two-2.ensures.1)) (still_looked c.if-eat-2.ensures.1)) (still_stayed c.if-eat_two-3.ensures.1)) (still_looked c.if-eat-3.ensures.1)) (still_stayed c.if-eat_two-4.ensures.1)) (still_stayed c.if-eat_two-5.ensures.1)) c.if-eat_two-6.ensures) IsComparison.contains

pub returns-then-eat_two-6-clause-moves : goal.returns-then-eat_two-6-clause-moves
returns-then-eat_two-6-clause-moves c = moves_then (still_then (still_then (still_then (still_then (still_then (still_then (still_then (still_looked c.if-eat.ensures.1) (still_stayed c.if-eat_two.ensures.1)) (still_stayed c.if-eat_two-2.ensures.1)) (still_looked c.if-eat-2.ensures.1)) (still_stayed c.if-eat_two-3.ensures.1)) (still_looked c.if-eat-3.ensures.1)) (still_stayed c.if-eat_two-4.ensures.1)) (still_stayed c.if-eat_two-5.ensures.1)).moves (moves_two c.if-eat_two-6.ensures)
