use Rattle.kdl_text.proofs.Looking.MovesJoin.{moves_one, moves_then}
use Rattle.kdl_query.proofs.Testing.{on_exit, test_failed, test_more, tests_end}
use Rattle.kdl_query.proofs.parse.tests.read_tests.Goals as goal

pub returns-in_err-read_test : goal.returns-in_err-read_test
returns-in_err-read_test c = on_exit _ _ _ _ c.from_residual.ensures.1 (test_failed _ _ _ _ _ _ _ _ c.tests.invariant.goes c.tests.invariant.moves c.tests-test.ensures c.in_err-read_test.ensures)

pub tests-preserved : goal.tests-preserved
tests-preserved c = record {
  goes = test_more _ c.tests.tests.items c.push.new.self.items _ _ c.tests.cursor _ _ c.tests.invariant.goes c.tests-test.ensures c.in_ok-read_test.ensures c.in_ok-push.ensures.items;
  moves = moves_then c.tests.invariant.moves (moves_then (moves_one c.tests-test.ensures) c.in_ok-read_test.ensures.moves);
}

pub returns-in_err-push : goal.returns-in_err-push
returns-in_err-push c = on_exit _ _ _ _ c.from_residual-in_err-push.ensures.1 (record {
  returns = tt;
  moves = moves_then c.tests.invariant.moves (moves_then (moves_one c.tests-test.ensures) c.in_ok-read_test.ensures.moves);
})

pub returns : goal.returns
returns c = tests_end _ _ _ _ _ c.tests.invariant.goes c.tests.invariant.moves c.tests-test.ensures
