use Rattle.std.proofs.Common.{subst}
use Rattle.kdl_text.proofs.Looking.MovesJoin.{moves_one, moves_then}
use Rattle.kdl_query.specs.QueryText.{IsTest, Spaces}
use Rattle.kdl_query.proofs.Testing.{on_exit, accessor_failed, test_read}
use Rattle.kdl_query.proofs.parse.tests.read_test.Goals as goal

pub returns-then-eat : goal.returns-then-eat
returns-then-eat c = record {
  returns = IsTest.nothing (subst (λ z. Spaces c.args.cursor.now.rest z) c.if-eat.ensures.0 c.skip_spaces.ensures.spaces);
  moves = moves_then c.skip_spaces.ensures.moves (moves_one c.if-eat.ensures);
}

pub returns-in_err-accessor : goal.returns-in_err-accessor
returns-in_err-accessor c = on_exit _ _ _ _ c.from_residual.ensures.1 (accessor_failed _ _ _ _ _ _ _ c.skip_spaces.ensures.spaces c.skip_spaces.ensures.moves c.if-eat.ensures c.in_err-accessor.ensures)

pub returns : goal.returns
returns c = test_read _ _ _ _ _ _ _ _ _ _ c.skip_spaces.ensures.spaces c.skip_spaces.ensures.moves c.if-eat.ensures c.in_ok-accessor.ensures c.skip_spaces-2.ensures.spaces c.skip_spaces-2.ensures.moves c.after_accessor.ensures
