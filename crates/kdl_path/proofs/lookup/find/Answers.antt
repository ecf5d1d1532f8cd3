use Rattle.std.proofs.Common.{List, None, sym, subst}
use Rattle.kdl.specs.Words.{nodes_of}
use Rattle.kdl_path.specs.Internal.Located.{Leads}
use Rattle.kdl_path.specs.declared.path.Step.{Step}
use Rattle.kdl_path.proofs.Places.{leads_at, leads_indices, leads_said}
use Rattle.kdl_path.proofs.lookup.find.Goals as goal

pub returns-in-Ok-clause-said : goal.returns-in-Ok-clause-said
returns-in-Ok-clause-said c =
    let d = c.args.document.now in
    let l = c.in-Ok.located in
    sym (leads_said c.args.path.now.steps.items l.indices.items d l.node.now (subst (λ (ss : List Step). Leads ss l.indices.items (nodes_of d) None l.node.now) c.deref.ensures.value c.in-Ok.ensures.leads))

pub returns-in-Ok-clause-places : goal.returns-in-Ok-clause-places
returns-in-Ok-clause-places c =
    let d = c.args.document.now in
    let l = c.in-Ok.located in
    leads_indices c.args.path.now.steps.items l.indices.items d l.node.now (subst (λ (ss : List Step). Leads ss l.indices.items (nodes_of d) None l.node.now) c.deref.ensures.value c.in-Ok.ensures.leads)

pub returns-in-Ok-clause-there : goal.returns-in-Ok-clause-there
returns-in-Ok-clause-there c =
    let d = c.args.document.now in
    let l = c.in-Ok.located in
    leads_at c.args.path.now.steps.items l.indices.items (nodes_of d) l.node.now (subst (λ (ss : List Step). Leads ss l.indices.items (nodes_of d) None l.node.now) c.deref.ensures.value c.in-Ok.ensures.leads)
