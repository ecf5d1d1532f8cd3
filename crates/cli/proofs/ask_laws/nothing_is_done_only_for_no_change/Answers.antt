use Rattle.cli.proofs.AskLaws.{unchanged, unshown}
use Rattle.cli.proofs.ask_laws.nothing_is_done_only_for_no_change.Goals as goal

pub returns-clause-replaces : goal.returns-clause-replaces
returns-clause-replaces c = unchanged

pub returns-clause-prints : goal.returns-clause-prints
returns-clause-prints c = unshown
