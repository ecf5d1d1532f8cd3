use Rattle.cli.proofs.Spelled.{expand_spelled, indent_spelled, lines_spelled, none_spelled, respell_spelled}
use Rattle.cli.proofs.config.key_of.Goals as goal

pub returns-in-indent : goal.returns-in-indent
returns-in-indent c = indent_spelled c.args.name.now c.in-indent.is

pub returns-in-text : goal.returns-in-text
returns-in-text c = lines_spelled c.args.name.now c.in-text.is

pub returns-in-respell : goal.returns-in-respell
returns-in-respell c = respell_spelled c.args.name.now c.in-respell.is

pub returns-in-expand : goal.returns-in-expand
returns-in-expand c = expand_spelled c.args.name.now c.in-expand.is

pub returns-in_default : goal.returns-in_default
returns-in_default c = none_spelled c.args.name.now c.utf8.name c.in_default.not-indent c.in_default.not-text c.in_default.not-respell c.in_default.not-expand
