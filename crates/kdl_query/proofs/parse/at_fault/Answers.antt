use Rattle.std.proofs.Common.{[], ◌∷◌, sym, ◌∙◌}
use Rattle.kdl_query.proofs.Reading.{ahead_step}
use Rattle.kdl_query.proofs.parse.at_fault.Goals as goal

pub returns-then-eat_two : goal.returns-then-eat_two
returns-then-eat_two c = let t = rw c.if-eat_two.true at c.eat_two.ensures in (47 ∷ 47 ∷ [], t.rest)

pub returns-then-at-from : goal.returns-then-at-from
returns-then-at-from c =
    let stayed = rw c.if-eat_two.false at c.eat_two.ensures in
    let ahead = ahead_step _ _ _ _ c.skip.ensures c.step.ensures in
    (ahead.0, sym stayed.1.rest ∙ ahead.1)
