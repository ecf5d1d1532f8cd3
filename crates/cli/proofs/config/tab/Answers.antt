use Rattle.cli.proofs.Spelled.{not_tab, tab_spelled}
use Rattle.cli.proofs.config.tab.Goals as goal

pub returns-then-eq : goal.returns-then-eq
returns-then-eq c = tab_spelled c.args.text.now c.if-eq.ensures

pub returns-else-eq : goal.returns-else-eq
returns-else-eq c = not_tab c.args.text.now c.utf8.text c.if-eq.ensures
