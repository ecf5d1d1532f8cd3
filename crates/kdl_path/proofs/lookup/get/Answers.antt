use Rattle.std.proofs.Common.{◌≡◌, List, None, sym, subst, ◌∙◌}
use Rattle.kdl.specs.Words.{document_says, nodes_of, said_nodes}
use Rattle.kdl_path.specs.Internal.Located.{Leads}
use Rattle.kdl_path.specs.Paths.{node_at}
use Rattle.kdl_path.specs.declared.path.Step.{Step}
use Rattle.kdl_path.proofs.Places.{at_node, at_nowhere}
use Rattle.kdl_path.proofs.lookup.get.Goals as goal

pub returns-in-Err-clause-missing : goal.returns-in-Err-clause-missing
returns-in-Err-clause-missing c = λ m.
    let d = c.args.document.now in
    at_nowhere c.args.path.now d (subst (λ (ss : List Step). node_at ss (said_nodes (document_says d)) ≡ None) c.deref.ensures.value (c.in-Err.ensures.nowhere (c.not_located.ensures m)))

pub returns-in-Some-clause-found : goal.returns-in-Some-clause-found
returns-in-Some-clause-found c =
    let d = c.args.document.now in
    let is = c.in-Ok.located.indices.items in
    let n = c.in-Ok.located.node.now in
    at_node c.args.path.now is d n (subst (λ (ss : List Step). Leads ss is (nodes_of d) None n) c.deref.ensures.value c.in-Ok.ensures.leads) ∙ sym c.in-Some.ensures

pub returns-in_ok-missing_entry-in-None-clause-missing : goal.returns-in_ok-missing_entry-in-None-clause-missing
returns-in_ok-missing_entry-in-None-clause-missing c = λ u.
    let d = c.args.document.now in
    let is = c.in-Ok.located.indices.items in
    let n = c.in-Ok.located.node.now in
    at_node c.args.path.now is d n (subst (λ (ss : List Step). Leads ss is (nodes_of d) None n) c.deref.ensures.value c.in-Ok.ensures.leads) ∙ sym c.in-None.ensures
