use Rattle.kdl_text.proofs.Looking.MovesJoin.{moves_one, moves_then}
use Rattle.kdl_query.specs.QueryText.{IsAccessor}
use Rattle.kdl_query.specs.Tree.{accessor_says}
use Rattle.kdl_query.proofs.Reading.{after_still, passed_on, still_looked}
use Rattle.kdl_query.proofs.Testing.{argument_first, no_argument, no_argument_end}
use Rattle.kdl_query.proofs.parse.tests.read_argument.Goals as goal

pub returns-then-eat : goal.returns-then-eat
returns-then-eat c = record { returns = argument_first _ _ _ c.skip_spaces.ensures.spaces c.if-eat.ensures.0; moves = moves_then c.skip_spaces.ensures.moves (moves_one c.if-eat.ensures) }

pub returns-in_err-index : goal.returns-in_err-index
returns-in_err-index c =
    let index = after_still (λ i. i) _ _ _ _ (still_looked c.if-eat.ensures.1) c.in_err-index.ensures in
    passed_on accessor_says c.from_residual.result c.in_err-index.field-0.0 _ _ c.from_residual.ensures.1 index (moves_then c.skip_spaces.ensures.moves index.moves) (no_argument _ _ c.skip_spaces.ensures.spaces c.if-eat.ensures.0)

pub returns-in_err-close : goal.returns-in_err-close
returns-in_err-close c =
    let index = after_still (λ i. i) _ _ _ _ (still_looked c.if-eat.ensures.1) c.in_ok-index.ensures in
    passed_on accessor_says c.from_residual-in_err-close.result c.in_err-close.field-0.0 _ _ c.from_residual-in_err-close.ensures.1 c.in_err-close.ensures (moves_then c.skip_spaces.ensures.moves (moves_then index.moves c.in_err-close.ensures.moves))
    (no_argument_end _ _ _ _ c.skip_spaces.ensures.spaces index.returns)

pub returns : goal.returns
returns c =
    let index = after_still (λ i. i) _ _ _ _ (still_looked c.if-eat.ensures.1) c.in_ok-index.ensures in
    record {
      returns = IsAccessor.nth c.skip_spaces.ensures.spaces index.returns c.in_ok-close.ensures.returns;
      moves = moves_then c.skip_spaces.ensures.moves (moves_then index.moves c.in_ok-close.ensures.moves);
    }
