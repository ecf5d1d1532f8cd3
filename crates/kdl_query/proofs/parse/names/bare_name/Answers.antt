use Rattle.std.proofs.Common.{sym, subst}
use Rattle.kdl_query.specs.Internal.QueryReading.{IsWord}
use Rattle.kdl_query.proofs.Reading.{bare_none, operator_none, bare_word}
use Rattle.kdl_query.proofs.parse.names.bare_name.Goals as goal

pub returns-in_default : goal.returns-in_default
returns-in_default c = record { returns = λ r v w. bare_none _ r v c.requires (λ t u b. c.in_default.ensures.only t u b) w; moves = c.in_default.ensures.moves }

pub returns-then-is_operator : goal.returns-then-is_operator
returns-then-is_operator c = record { returns = operator_none _ _ _ c.in-Some.ensures.found (c.is_operator.ensures.0 c.if-is_operator.true); moves = c.in-Some.ensures.moves }

pub returns : goal.returns
returns c = record {
  returns = subst (IsWord _ _) (sym c.in_ok-to_string.ensures) (bare_word _ _ _ c.in-Some.ensures.found (λ o. let k = c.is_operator.ensures.1 o in let m = c.if-is_operator.false in absurd cc));
  moves = c.in-Some.ensures.moves;
}
