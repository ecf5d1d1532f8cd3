use Rattle.std.specs.Str.{chars}
use Rattle.c_calls.proofs.EditSteps.{value_set}
use Rattle.kdl_c.proofs.edits.of_entries.kdl_set_value.Goals as goal

pub returns-clause-done : goal.returns-clause-done
returns-clause-done c = λ ok.
    value_set c.args.path.now c.args.index (chars c.args.value.now) c.in-Ok.value.0 c.in-Ok.value.1 c.in-Ok.ensures.spelled
    c.args.document.now.held.document c.change_held.new.document.held.document (c.change_held.ensures.done ok)
