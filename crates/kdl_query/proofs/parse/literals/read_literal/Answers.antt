use Rattle.std.proofs.Common.{sym}
use Rattle.kdl_query.specs.Tree.{literal_says}
use Rattle.kdl_query.proofs.Keys.{back_at, refused_at}
use Rattle.kdl_query.proofs.Testing.{no_unfit}
use Rattle.kdl_query.proofs.parse.literals.read_literal.Goals as goal

pub returns-then-not-is_allowed : goal.returns-then-not-is_allowed
returns-then-not-is_allowed c =
    refused_at literal_says c.refuse.result _ _ (back_at _ _ _ c.in_ok-literal.ensures.moves c.refuse.ensures.moved c.checkpoint-start.ensures.rest c.checkpoint-start.ensures.at)
    (no_unfit _ _ _ _ _ c.in_ok-literal.ensures.returns (sym c.if-not-is_allowed.ensures))
