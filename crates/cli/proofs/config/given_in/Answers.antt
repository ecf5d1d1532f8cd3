use Rattle.cli.proofs.ConfigSteps.{is_config}
use Rattle.cli.proofs.config.given_in.Goals as goal

pub returns-in-Ok : goal.returns-in-Ok
returns-in-Ok c = λ text laid. c.without_misfits.ensures text (is_config text c.args.document.now c.nodes.result.now c.in-Ok.given c.given_by.new.misfits.items laid c.nodes.ensures.value c.in-Ok.ensures.given c.in-Ok.ensures.misfits)
