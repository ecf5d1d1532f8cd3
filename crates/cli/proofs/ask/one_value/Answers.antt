use Rattle.std.proofs.Common.{◌++◌, ◌∙◌, ap}
use Rattle.kdl.specs.Words.{value_tree}
use Rattle.cli_shown.specs.Values.{line_of}
use Rattle.cli.proofs.ask.one_value.Goals as goal

pub returns-in_ok-push_value-in-Ok : goal.returns-in_ok-push_value-in-Ok
returns-in_ok-push_value-in-Ok c =
    let v = value_tree c.in-Ok.value.now in
    (v, c.in-Ok.ensures.found, c.in_ok-push_value-in-Ok.ensures ∙ ap (λ t. t ++ line_of c.args.raw v) c.new-line.ensures.bytes)
