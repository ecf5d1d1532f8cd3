use Rattle.lsp.proofs.Sending.{faults_sent}
use Rattle.lsp.proofs.message.before_reply.Goals as goal

pub returns-in-Ok-clause-notices : goal.returns-in-Ok-clause-notices
returns-in-Ok-clause-notices c = faults_sent _ _ _ _ c.in-Ok.is c.faults.ensures
