use Rattle.std.proofs.Common.{ℕ, Option, Some, subst, sym}
use Rattle.kdl_path.specs.Internal.Done.{IsNamed}
use Rattle.kdl_path.proofs.Changes.{if_ok}
use Rattle.kdl_path.proofs.Edited.{node_removed}
use Rattle.kdl_path.proofs.Removed.{entry_removed}
use Rattle.kdl_path.proofs.removal.remove_at.Goals as goal

pub returns-in_ok-change_at-in-Some-clause-removed : goal.returns-in_ok-change_at-in-Some-clause-removed
returns-in_ok-change_at-in-Some-clause-removed c = λ ss t n leads named r.
    let there : IsNamed t n (Some c.in-Some.at) = subst (λ (o : Option ℕ). IsNamed t n o) c.in-Some.is named in
    entry_removed ss t c.args.indices.now c.args.document c.in_ok-change_at-in-Some.field-0 n c.in-Some.at leads (sym there.1) there.0 c.in_ok-change_at-in-Some.ensures r

pub returns-in-None-clause-removed : goal.returns-in-None-clause-removed
returns-in-None-clause-removed c = if_ok c.remove_node.result _ _ (λ e h ss t n leads named r. node_removed ss t c.args.document e (subst (λ (o : Option ℕ). IsNamed t n o) c.in-None.is named) (h ss n leads r)) c.remove_node.ensures.removed
