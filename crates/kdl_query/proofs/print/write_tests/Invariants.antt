use Rattle.std.proofs.Common.{map, take, encode_utf8_all}
use Rattle.std.specs.Fmt.{HasWritten, IsPlainFormatter}
use Rattle.std.specs.List.{flat_map}
use Rattle.kdl_query.specs.Printed.{print_test}
use Rattle.kdl_query.specs.Tree.{test_says}
use Rattle.kdl_query.proofs.print.write_tests.Given as goal

abbrev pub invariant-loop-test : goal.invariant-loop-test
invariant-loop-test g l =
    IsPlainFormatter l.fn.f → HasWritten g.W.Write.write_str_gives l.fn.f (encode_utf8_all (flat_map print_test (map test_says (take l.test-index l.tests)))) l.f
