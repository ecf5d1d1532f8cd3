use Rattle.kdl_layout.proofs.Common.{chars-nil}
use Rattle.kdl_layout.proofs.layout.texts_of.Goals as goal

pub returns-in-None-clause-leading : goal.returns-in-None-clause-leading
returns-in-None-clause-leading c = rw c.in-None.is chars-nil

pub returns-in-None-clause-trailing : goal.returns-in-None-clause-trailing
returns-in-None-clause-trailing c = rw c.in-None.is chars-nil
