use Rattle.std.proofs.Common.{fold, take, encode_utf8_all}
use Rattle.std.specs.Fmt.{HasWritten, IsPlainFormatter}
use Rattle.kdl_query.specs.Printed.{print_selector}
use Rattle.kdl_query.specs.Tree.{first_says, step_says}
use Rattle.kdl_query.proofs.print.write_selector.Given as goal

abbrev pub invariant-loop-step : goal.invariant-loop-step
invariant-loop-step g l =
    IsPlainFormatter l.fn.f → HasWritten g.W.Write.write_str_gives l.fn.f (encode_utf8_all (print_selector (fold step_says (first_says l.selector.first) (take l.step-index l.selector.steps.items)))) l.f
