use Rattle.c_calls.proofs.PositionSteps.{moved_feed, moved_return}
use Rattle.c_calls.proofs.place.Place.step.Goals as goal

pub returns-then-c-eq10-clause-moved : goal.returns-then-c-eq10-clause-moved
returns-then-c-eq10-clause-moved c = λ r. moved_feed c.args.self r c.args.c c.if-c-eq10.true

pub returns-then-c-eq13-clause-moved : goal.returns-then-c-eq13-clause-moved
returns-then-c-eq13-clause-moved c = λ r.
    let e = c.ended-place in
    moved_return c.args.self r c.args.c e.result.line e.result.column c.if-c-eq13.true e.ensures.line e.ensures.column
