use Rattle.std.proofs.Common.{◌≡◌, ℕ, List, None, subst, sym}
use Rattle.kdl.specs.Words.{document_says, nodes_of, said_nodes}
use Rattle.kdl_path.specs.Internal.Located.{Leads}
use Rattle.kdl_path.specs.Paths.{node_at}
use Rattle.kdl_path.specs.declared.path.Step.{Step}
use Rattle.kdl_path.proofs.Changes.{if_err, if_ok}
use Rattle.kdl_path.proofs.Edited.{entry_missing, node_missing, removed_there}
use Rattle.kdl_path.proofs.Failing.{all_ok, err_is, memory_misses, misses, no_ok}
use Rattle.kdl_path.proofs.removal.remove_in.Goals as goal

pub returns-in-Err-clause-missing : goal.returns-in-Err-clause-missing
returns-in-Err-clause-missing c =
    let p = c.args.path.now in
    let d = c.args.document in
    misses _ (λ h. node_missing p (document_says d) (subst (λ (ss : List Step). node_at ss (said_nodes (document_says d)) ≡ None) c.deref.ensures.value (c.in-Err.ensures.nowhere h))) c.lost_failure.ensures

pub returns-in_err-place-clause-removed : goal.returns-in_err-place-clause-removed
returns-in_err-place-clause-removed c = no_ok c.from_residual.result _ c.from_residual.ensures.0

pub returns-in_err-place-clause-found : goal.returns-in_err-place-clause-found
returns-in_err-place-clause-found c = no_ok c.from_residual.result _ c.from_residual.ensures.0

pub returns-in_err-place-clause-missing : goal.returns-in_err-place-clause-missing
returns-in_err-place-clause-missing c =
    let p = c.args.path.now in
    let d = c.args.document in
    let is = c.in-Ok.located.indices.items in
    let n = c.in-Ok.located.node.now in
    let leads : Leads p.steps.items is (nodes_of d) None n = subst (λ (ss : List Step). Leads ss is (nodes_of d) None n) c.deref.ensures.value c.in-Ok.ensures.leads in
    err_is c.from_residual.result _ _ c.from_residual.ensures.1 (misses _ (entry_missing p is d n leads) c.in_err-place.ensures.missing)

pub returns-clause-removed : goal.returns-clause-removed
returns-clause-removed c =
    let p = c.args.path.now in
    let d = c.args.document in
    let is = c.in-Ok.located.indices.items in
    let n = c.in-Ok.located.node.now in
    let leads : Leads p.steps.items is (nodes_of d) None n = subst (λ (ss : List Step). Leads ss is (nodes_of d) None n) c.deref.ensures.value c.in-Ok.ensures.leads in
    if_ok c.remove_at.result _ _ (λ e h r. h p.steps.items p.target n (subst (λ (l : List ℕ). Leads p.steps.items l (nodes_of d) None n) (sym c.deref-2.ensures.value) leads) c.in_ok-place.ensures.named r) c.remove_at.ensures.removed

pub returns-clause-found : goal.returns-clause-found
returns-clause-found c =
    let p = c.args.path.now in
    let d = c.args.document in
    let is = c.in-Ok.located.indices.items in
    let n = c.in-Ok.located.node.now in
    let leads : Leads p.steps.items is (nodes_of d) None n = subst (λ (ss : List Step). Leads ss is (nodes_of d) None n) c.deref.ensures.value c.in-Ok.ensures.leads in
    all_ok c.remove_at.result _ (λ e. removed_there p is d n c.in_ok-place.place leads c.in_ok-place.ensures.named)

pub returns-clause-missing : goal.returns-clause-missing
returns-clause-missing c = if_err c.remove_at.result _ _ (λ e h. memory_misses _ e h) c.remove_at.ensures.memory
