use Rattle.std.proofs.Common.{rules}
use Rattle.std.specs.Char.{IsScalar}
use Rattle.kdl_query.proofs.Keys.{joins_so, nothing_joins}
use Rattle.kdl_query.proofs.parse.tests.is_joined.Goals as goal

pub returns-in-Some-clause-result : goal.returns-in-Some-clause-result
returns-in-Some-clause-result c =
    let scalar : IsScalar c.in-Some.last = search rules in
    joins_so _ _ _ c.in-Some.last _ c.look.result _ c.utf8.name scalar c.chars.ensures.rest c.in-Some.ensures.steps c.look.ensures.result c.if-eq.ensures c.begins_comparison.ensures

pub returns-in-None-clause-result : goal.returns-in-None-clause-result
returns-in-None-clause-result c = (λ e. absurd (cc), λ j. absurd (nothing_joins _ _ _ c.chars.ensures.rest (rw c.in-None.is at c.next_back.ensures.steps).0 j))
