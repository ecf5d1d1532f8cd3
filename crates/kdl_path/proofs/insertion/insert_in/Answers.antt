use Rattle.std.proofs.Common.{ℕ, List, subst, sym}
use Rattle.kdl.specs.Words.{nodes_of}
use Rattle.kdl_path.specs.Internal.Done.{LeadsTo}
use Rattle.kdl_path.proofs.Changes.{if_err, if_ok}
use Rattle.kdl_path.proofs.Edited.{place_there}
use Rattle.kdl_path.proofs.Failing.{all_ok, err_is, memory_misses, no_ok}
use Rattle.kdl_path.proofs.insertion.insert_in.Goals as goal

pub returns-in_err-indices-clause-put : goal.returns-in_err-indices-clause-put
returns-in_err-indices-clause-put c = no_ok c.from_residual.result _ c.from_residual.ensures.0

pub returns-in_err-indices-clause-found : goal.returns-in_err-indices-clause-found
returns-in_err-indices-clause-found c = no_ok c.from_residual.result _ c.from_residual.ensures.0

pub returns-in_err-indices-clause-missing : goal.returns-in_err-indices-clause-missing
returns-in_err-indices-clause-missing c = err_is c.from_residual.result _ _ c.from_residual.ensures.1 c.in_err-indices.ensures.missing

pub returns-clause-put : goal.returns-clause-put
returns-clause-put c =
    let ss = c.args.path.now.steps.items in
    if_ok c.put_node.result _ _ (λ d h n r. h ss (subst (λ (l : List ℕ). LeadsTo ss l (nodes_of c.args.document)) (sym c.deref.ensures.value) c.in_ok-indices.ensures.leads) n r) c.put_node.ensures.put

pub returns-clause-found : goal.returns-clause-found
returns-clause-found c = all_ok c.put_node.result _ (λ d. place_there c.args.path.now.steps.items c.in_ok-indices.indices.items c.args.document c.in_ok-indices.ensures.leads)

pub returns-clause-missing : goal.returns-clause-missing
returns-clause-missing c = if_err c.put_node.result _ _ (λ e h. memory_misses _ e h) c.put_node.ensures.memory
