use Rattle.std.specs.Str.{chars}
use Rattle.c_calls.proofs.EditSteps.{node_named}
use Rattle.kdl_c.proofs.edits.of_nodes.kdl_set_name.Goals as goal

pub returns-clause-done : goal.returns-clause-done
returns-clause-done c = λ ok.
    node_named c.args.path.now (chars c.args.name.now) c.in-Ok.name c.in-Ok.ensures.plain
    c.args.document.now.held.document c.change_held.new.document.held.document (c.change_held.ensures.done ok)
