use Rattle.lsp.proofs.Sending.{faults_sent, takes_lost, takes_on}
use Rattle.lsp.proofs.message.step.Goals as goal

pub returns : goal.returns
returns c =
    takes_on _ _ _ _ _ _ _ c.faults.ensures.documents c.faults.ensures.session c.in_ok-append.ensures.items (faults_sent _ _ _ _ c.in_ok-faults.was c.faults.ensures) c.in_ok-out.ensures.takes

pub returns-in_err-faults : goal.returns-in_err-faults
returns-in_err-faults c = takes_lost _ _ _ _ _ _ c.faults.ensures.documents c.faults.ensures.session c.in_ok-out.ensures.takes c.from_residual-in_err-faults.ensures.0

pub returns-in_err-append : goal.returns-in_err-append
returns-in_err-append c = takes_lost _ _ _ _ _ _ c.faults.ensures.documents c.faults.ensures.session c.in_ok-out.ensures.takes c.from_residual-in_err-append.ensures.0
