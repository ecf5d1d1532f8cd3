use Rattle.std.proofs.Common.{map, take, encode_utf8_all}
use Rattle.std.specs.Fmt.{HasWritten, IsPlainFormatter}
use Rattle.std.specs.List.{flat_map}
use Rattle.kdl_query.specs.Printed.{print_other}
use Rattle.kdl_query.specs.Tree.{selector_says}
use Rattle.kdl_query.proofs.print.write_others.Given as goal

abbrev pub invariant-loop-selector : goal.invariant-loop-selector
invariant-loop-selector g l =
    IsPlainFormatter l.fn.f → HasWritten g.W.Write.write_str_gives l.fn.f (encode_utf8_all (flat_map print_other (map selector_says (take l.selector-index l.selectors)))) l.f
