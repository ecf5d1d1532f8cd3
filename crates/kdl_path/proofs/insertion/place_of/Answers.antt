use Rattle.std.proofs.Common.{rules, ◌≡◌, [], ℕ, List, None, subst, sym}
use Rattle.kdl.specs.Words.{document_says, nodes_of, said_nodes}
use Rattle.kdl_path.specs.Internal.Done.{LeadsTo}
use Rattle.kdl_path.specs.Internal.Located.{Leads}
use Rattle.kdl_path.specs.Paths.{node_at}
use Rattle.kdl_path.specs.declared.path.Step.{Step}
use Rattle.kdl_path.proofs.Edited.{leads_to, no_place, no_steps}
use Rattle.kdl_path.proofs.Failing.{misses}
use Rattle.kdl_path.proofs.insertion.place_of.Goals as goal

pub returns-then-is_document-clause-leads : goal.returns-then-is_document-clause-leads
returns-then-is_document-clause-leads c =
    let p = c.args.path.now in
    let none : c.new.result.items ≡ [] = search rules in
    subst (λ (l : List ℕ). LeadsTo p.steps.items l (nodes_of c.args.document.now)) (sym none) (no_steps p.steps.items (nodes_of c.args.document.now) c.if-is_document.ensures)

pub returns-in-Ok-clause-leads : goal.returns-in-Ok-clause-leads
returns-in-Ok-clause-leads c =
    let p = c.args.path.now in
    let d = c.args.document.now in
    let is = c.in-Ok.located.indices.items in
    let n = c.in-Ok.located.node.now in
    leads_to p.steps.items is (nodes_of d) n (subst (λ (ss : List Step). Leads ss is (nodes_of d) None n) c.deref.ensures.value c.in-Ok.ensures.leads)

pub returns-in-Err-clause-missing : goal.returns-in-Err-clause-missing
returns-in-Err-clause-missing c =
    let p = c.args.path.now in
    let d = c.args.document.now in
    misses _ (λ h. no_place p.steps.items (document_says d) c.if-is_document.ensures (subst (λ (ss : List Step). node_at ss (said_nodes (document_says d)) ≡ None) c.deref.ensures.value (c.in-Err.ensures.nowhere h))) c.lost_failure.ensures
