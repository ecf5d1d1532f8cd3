use Rattle.kdl_value.proofs.Spelling.PlainRuns.{plain_run}
use Rattle.kdl_value.proofs.spelled.skip_plain.Goals as goal

pub returns-clause-run : goal.returns-clause-run
returns-clause-run c = plain_run _ _ c.after_plain.ensures
