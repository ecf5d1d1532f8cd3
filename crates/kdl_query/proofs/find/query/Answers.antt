use Rattle.std.proofs.Common.{[], ◌∷◌}
use Rattle.kdl.specs.Tree.{document_says}
use Rattle.kdl_query.specs.Tree.{query_says}
use Rattle.kdl_query.specs.Internal.Visits.{Passes, came_to, walk_due, walk_left}
use Rattle.kdl_query.proofs.Choosing.{first_found, none_found}
use Rattle.kdl_query.proofs.find.query.Goals as goal

pub returns-then-visit : goal.returns-then-visit
returns-then-visit c =
    let walk = c.visit.new.self in
    let rest = walk_left c.in-Some.visit walk in
    let some : Passes (walk_due c.loop-walk.walk) (came_to c.in-Some.visit walk ∷ rest) = rw c.in-Some.is at c.in_ok-visit.ensures.due in
    first_found (document_says c.args.document.now) (query_says c.args.query.now) (walk_due c.loop-walk.walk) rest (came_to c.in-Some.visit walk) some c.if-visit.true c.loop-walk.invariant

pub returns : goal.returns
returns c =
    let none : Passes (walk_due c.loop-walk.walk) [] = rw c.in_default.is at c.in_ok-visit.ensures.due in
    none_found (document_says c.args.document.now) (query_says c.args.query.now) (walk_due c.loop-walk.walk) none c.loop-walk.invariant
