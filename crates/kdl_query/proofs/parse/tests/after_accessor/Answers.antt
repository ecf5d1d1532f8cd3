use Rattle.std.proofs.Common.{refl}
use Rattle.kdl_text.proofs.Looking.MovesJoin.{moves_one}
use Rattle.kdl_query.specs.QueryText.{AfterAccessor}
use Rattle.kdl_query.proofs.Testing.{on_exit, comparison_failed, literal_failed, bracket_failed, compared_read}
use Rattle.kdl_query.proofs.parse.tests.after_accessor.Goals as goal

pub returns-then-eat : goal.returns-then-eat
returns-then-eat c = record { returns = rw c.if-eat.ensures.0 AfterAccessor.alone; moves = moves_one c.if-eat.ensures }

pub returns-in_err-comparison : goal.returns-in_err-comparison
returns-in_err-comparison c = on_exit _ _ _ _ c.from_residual.ensures.1 (comparison_failed _ _ _ _ _ _ c.if-eat.ensures c.in_err-comparison.ensures)

pub returns-in_err-literal : goal.returns-in_err-literal
returns-in_err-literal c = on_exit _ _ _ _ c.from_residual-in_err-literal.ensures.1 (literal_failed _ _ _ _ _ _ _ _ _ _ c.if-eat.ensures c.in_ok-comparison.ensures c.skip_spaces.ensures.spaces c.skip_spaces.ensures.moves c.in_err-literal.ensures)

pub returns-in_err-close : goal.returns-in_err-close
returns-in_err-close c = on_exit _ _ _ _ c.from_residual-in_err-close.ensures.1 (bracket_failed _ _ _ _ _ _ _ _ _ _ _ _ c.if-eat.ensures c.in_ok-comparison.ensures c.skip_spaces.ensures.spaces c.skip_spaces.ensures.moves c.in_ok-literal.ensures c.in_err-close.ensures)

pub returns : goal.returns
returns c = compared_read _ _ _ _ _ _ _ _ _ _ _ _ refl c.if-eat.ensures c.in_ok-comparison.ensures c.skip_spaces.ensures.spaces c.skip_spaces.ensures.moves c.in_ok-literal.ensures c.in_ok-close.ensures
