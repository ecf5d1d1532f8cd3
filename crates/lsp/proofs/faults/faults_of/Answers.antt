use Rattle.std.proofs.lemmas.Result.{IfOk-weaker}
use Rattle.lsp.proofs.faults.faults_of.Goals as goal

pub returns : goal.returns
returns c = IfOk-weaker c.faults_in.result _ _ (λ faults found. (c.check.result, c.check.ensures, found)) c.faults_in.ensures
