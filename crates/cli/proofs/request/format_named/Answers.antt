use Rattle.cli.proofs.RequestSteps.{formatted_with, not_read, not_replaced, not_settled}
use Rattle.cli.proofs.request.format_named.Goals as goal

pub returns-then-replaces_input : goal.returns-then-replaces_input
returns-then-replaces_input g c = not_replaced c.args.format.now _ _ _ _ c.replaces_input.ensures c.if-replaces_input.true c.report_unusable.ensures

pub returns-then-has_input_twice : goal.returns-then-has_input_twice
returns-then-has_input_twice g c = not_read c.args.format.now _ _ _ _ c.has_input_twice.ensures c.if-has_input_twice.true c.report_unusable-then-has_input_twice.ensures

pub returns-in-Ok : goal.returns-in-Ok
returns-in-Ok g c = formatted_with c.args.format.now c.in-Ok.settings _ _ _ _ _ _ c.replaces_input.ensures c.if-replaces_input.false c.has_input_twice.ensures c.if-has_input_twice.false c.in-Ok.ensures c.format_with.ensures

pub returns-in-Err : goal.returns-in-Err
returns-in-Err g c = not_settled c.args.format.now _ _ _ c.in-Err.ensures
