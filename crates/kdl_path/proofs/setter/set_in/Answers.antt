use Rattle.std.proofs.Common.{rules, ◌≡◌, Bool, true, false, ℕ, drop, take, length, List, [], None, Option, IsSome, ap, sym, subst, ◌∙◌}
use Rattle.kdl.specs.Words.{document_says, entries_of, node_says, nodes_of, said_nodes}
use Rattle.c_calls.specs.Changes.{AtNode}
use Rattle.kdl_value.specs.Data.{Value}
use Rattle.kdl_value.specs.Tree.{value_tree}
use Rattle.kdl_path.specs.Edits.{new_entry, node_with_entry}
use Rattle.kdl_path.specs.Internal.Changed.{IsMade}
use Rattle.kdl_path.specs.Internal.Done.{LeadsTo}
use Rattle.kdl_path.specs.Failures.{IsUnset, makes_at}
use Rattle.kdl_path.specs.Internal.Located.{Leads, Loses, Stops, StopsAt, makes_new, makes_there}
use Rattle.kdl_path.specs.Internal.Made.{IsNewNode}
use Rattle.kdl_path.specs.declared.locate.Lost.{Lost}
use Rattle.kdl_path.specs.declared.locate.Lost.TheVariants as lost
use Rattle.kdl_path.specs.Paths.{at_path, node_at, value_in}
use Rattle.kdl_path.specs.declared.path.Step.{Step}
use Rattle.kdl_path.specs.declared.path.Target.{Target}
use Rattle.kdl_path.proofs.Changes.{if_ok}
use Rattle.kdl_path.proofs.Failing.{all_ok, err_is, misses, none_is_some}
use Rattle.kdl_path.proofs.Made.{entry_made, node_made}
use Rattle.kdl_path.proofs.Places.{at_node, at_nowhere}
use Rattle.kdl_path.proofs.Values.{set_done, set_there}
use Rattle.kdl_path.proofs.setter.set_in.Goals as goal

not_both : (b : Bool) → b ≡ false → b ≡ true → ⊥
not_both true h k = absurd (cc)
not_both false h k = absurd (cc)

pub returns-in_err-change-in-Ok-clause-missing : goal.returns-in_err-change-in-Ok-clause-missing
returns-in_err-change-in-Ok-clause-missing c =
    let p = c.args.path.now in
    let d = c.args.document in
    let is = c.in-Ok.located.indices.items in
    let n = c.in-Ok.located.node.now in
    let x = said_nodes (document_says d) in
    let leads : Leads p.steps.items is (nodes_of d) None n = subst (λ (ss : List Step). Leads ss is (nodes_of d) None n) c.deref.ensures.value c.in-Ok.ensures.leads in
    let makes : makes_at p.steps.items p.target x ≡ makes_there p.target (entries_of n) = ap (λ (ss : List Step). makes_at ss p.target x) (sym c.deref.ensures.value) ∙ c.in-Ok.ensures.makes p.target in
    let unset : (value_in p.target (node_says n) ≡ None) × (c.args.create ≡ true → makes_there p.target (entries_of n) ≡ false) → IsUnset p c.args.create (document_says d) = λ h. (at_node p is d n leads ∙ h.0, λ k. makes ∙ h.1 k) in
    err_is c.from_residual.result _ _ c.from_residual.ensures.1 (misses _ unset c.in_err-change-in-Ok.ensures.missing)

pub returns-in_ok-change_at-in-Ok-clause-set : goal.returns-in_ok-change_at-in-Ok-clause-set
returns-in_ok-change_at-in-Ok-clause-set c = λ r ok there.
    let p = c.args.path.now in
    let d = c.args.document in
    let e = c.in_ok-change_at-in-Ok.field-0 in
    let is = c.in-Ok.located.indices.items in
    let n = c.in-Ok.located.node.now in
    let change = c.in_ok-change-in-Ok.change in
    let leads : Leads p.steps.items is (nodes_of d) None n = subst (λ (ss : List Step). Leads ss is (nodes_of d) None n) c.deref.ensures.value c.in-Ok.ensures.leads in
    let made : AtNode is (IsMade change) d e = subst (λ (l : List ℕ). AtNode l (IsMade change) d e) c.deref-in-Ok.ensures.value c.in_ok-change_at-in-Ok.ensures in
    set_done p.steps.items p.target is d e n c.args.value change leads (c.in_ok-change-in-Ok.ensures.set (set_there p is d n leads there)) made r ok

pub returns-in_ok-change_at-in-Ok-clause-made : goal.returns-in_ok-change_at-in-Ok-clause-made
returns-in_ok-change_at-in-Ok-clause-made c = λ r ok none.
    let p = c.args.path.now in
    let d = c.args.document in
    let e = c.in_ok-change_at-in-Ok.field-0 in
    let is = c.in-Ok.located.indices.items in
    let n = c.in-Ok.located.node.now in
    let leads : Leads p.steps.items is (nodes_of d) None n = subst (λ (ss : List Step). Leads ss is (nodes_of d) None n) c.deref.ensures.value c.in-Ok.ensures.leads in
    let made : AtNode is (IsMade c.in_ok-change-in-Ok.change) d e = subst (λ (l : List ℕ). AtNode l (IsMade c.in_ok-change-in-Ok.change) d e) c.deref-in-Ok.ensures.value c.in_ok-change_at-in-Ok.ensures in
    let x = said_nodes (document_says d) in
    let makes : (t : Target) → makes_at p.steps.items t x ≡ makes_there t (entries_of n) = λ t. ap (λ (ss : List Step). makes_at ss t x) (sym c.deref.ensures.value) ∙ c.in-Ok.ensures.makes t in
    entry_made p (value_tree c.args.value.value) is d e n c.in_ok-change-in-Ok.change leads makes (c.in_ok-change-in-Ok.ensures.made (sym (at_node p is d n leads) ∙ none) ok) made r

pub returns-in_ok-change_at-in-Ok-clause-found : goal.returns-in_ok-change_at-in-Ok-clause-found
returns-in_ok-change_at-in-Ok-clause-found c = λ u.
    let p = c.args.path.now in
    let d = c.args.document in
    let is = c.in-Ok.located.indices.items in
    let n = c.in-Ok.located.node.now in
    let leads : Leads p.steps.items is (nodes_of d) None n = subst (λ (ss : List Step). Leads ss is (nodes_of d) None n) c.deref.ensures.value c.in-Ok.ensures.leads in
    subst (λ (o : Option Value). IsSome o) (sym (at_node p is d n leads)) (c.in_ok-change-in-Ok.ensures.found u)

pub returns-in_err-node-in-Err-Step-clause-missing : goal.returns-in_err-node-in-Err-Step-clause-missing
returns-in_err-node-in-Err-Step-clause-missing c =
    let p = c.args.path.now in
    let d = c.args.document in
    let x = said_nodes (document_says d) in
    let nowhere : node_at p.steps.items x ≡ None = subst (λ (ss : List Step). node_at ss x ≡ None) c.deref.ensures.value (c.in-Err-Step.ensures.nowhere (search rules)) in
    let is = c.in-Err-Step.indices.items in
    let ns = c.in-Err-Step.nodes.now in
    let len : c.len.result ≡ length is = search rules in
    let own : Loses c.deref.result.now (document_says d) (lost.Step c.in-Err-Step.indices c.in-Err-Step.nodes) = subst (λ (l : Lost). Loses c.deref.result.now (document_says d) l) c.in-Err-Step.field-0-is c.in-Err-Step.ensures.loses in
    let loses : makes_at p.steps.items p.target x ≡ makes_new (drop (length is) p.steps.items) p.target ns = subst (λ (ss : List Step). makes_at ss p.target x ≡ makes_new (drop (length is) ss) p.target ns) c.deref.ensures.value (own p.target) in
    let unset : (c.args.create ≡ true → makes_new (drop c.len.result p.steps.items) p.target ns ≡ false) → IsUnset p c.args.create (document_says d) = λ f. (at_nowhere p d nowhere, λ k. loses ∙ ap (λ n. makes_new (drop n p.steps.items) p.target ns) (sym len) ∙ f k) in
    err_is c.from_residual-in_err-node-in-Err-Step.result _ _ c.from_residual-in_err-node-in-Err-Step.ensures.1 (misses _ unset c.in_err-node-in-Err-Step.ensures.missing)

pub returns-in_ok-node-in-Err-Step-clause-set : goal.returns-in_ok-node-in-Err-Step-clause-set
returns-in_ok-node-in-Err-Step-clause-set c =
    let p = c.args.path.now in
    let d = c.args.document in
    let nowhere : node_at p.steps.items (said_nodes (document_says d)) ≡ None = subst (λ (ss : List Step). node_at ss (said_nodes (document_says d)) ≡ None) c.deref.ensures.value (c.in-Err-Step.ensures.nowhere (search rules)) in
    all_ok c.put_node.result _ (λ e r ok there. absurd (none_is_some (at_path p (document_says d)) (at_nowhere p d nowhere) there))

pub returns-in_ok-node-in-Err-Step-clause-made : goal.returns-in_ok-node-in-Err-Step-clause-made
returns-in_ok-node-in-Err-Step-clause-made c =
    let p = c.args.path.now in
    let ss = p.steps.items in
    let d = c.args.document in
    let is = c.in-Err-Step.indices.items in
    let ns = c.in-Err-Step.nodes.now in
    let n = c.in_ok-node-in-Err-Step.node in
    let v = value_tree c.args.value.value in
    let len : c.len.result ≡ length is = search rules in
    let own : Stops c.deref.result.now (nodes_of d) (lost.Step c.in-Err-Step.indices c.in-Err-Step.nodes) = subst (λ (l : Lost). Stops c.deref.result.now (nodes_of d) l) c.in-Err-Step.field-0-is c.in-Err-Step.ensures.stops in
    let stops : StopsAt ss is (nodes_of d) ns = subst (λ (l : List Step). StopsAt l is (nodes_of d) ns) c.deref.ensures.value own in
    let lost : Loses c.deref.result.now (document_says d) (lost.Step c.in-Err-Step.indices c.in-Err-Step.nodes) = subst (λ (l : Lost). Loses c.deref.result.now (document_says d) l) c.in-Err-Step.field-0-is c.in-Err-Step.ensures.loses in
    let makes : (t : Target) → makes_at ss t (said_nodes (document_says d)) ≡ makes_new (drop (length is) ss) t ns =
    λ t. subst (λ (l : List Step). makes_at l t (said_nodes (document_says d)) ≡ makes_new (drop (length is) l) t ns) c.deref.ensures.value (lost t) in
    let next : makes_new (drop (length is) ss) p.target ns ≡ true = subst (λ (i : ℕ). makes_new (drop i ss) p.target ns ≡ true) len c.in_ok-node-in-Err-Step.ensures.created.1 in
    if_ok c.put_node.result _ _ (λ e put r ok none.
    let new : IsNewNode [] (drop (length is) ss) (node_with_entry (new_entry p.target v)) n = subst (λ (i : ℕ). IsNewNode [] (drop i ss) (node_with_entry (new_entry p.target v)) n) len (c.in_ok-node-in-Err-Step.ensures.made ok) in
    node_made p v is d e ns n stops makes next new (λ l. put (take (length is) ss) (subst (λ (j : List ℕ). LeadsTo (take (length is) ss) j (nodes_of d)) (sym c.deref-in-Err-Step.ensures.value) l) new.reads r)) c.put_node.ensures.put

pub returns-in_ok-node-in-Err-Step-clause-found : goal.returns-in_ok-node-in-Err-Step-clause-found
returns-in_ok-node-in-Err-Step-clause-found c = λ u. absurd (not_both c.args.create u c.in_ok-node-in-Err-Step.ensures.created.0)

pub returns-in-Err-Document-clause-missing : goal.returns-in-Err-Document-clause-missing
returns-in-Err-Document-clause-missing c =
    let p = c.args.path.now in
    let d = c.args.document in
    let x = said_nodes (document_says d) in
    let nowhere : node_at p.steps.items x ≡ None = subst (λ (ss : List Step). node_at ss x ≡ None) c.deref.ensures.value (c.in-Err-Document.ensures.nowhere (search rules)) in
    let own : Loses c.deref.result.now (document_says d) lost.Document = subst (λ (l : Lost). Loses c.deref.result.now (document_says d) l) c.in-Err-Document.field-0-is c.in-Err-Document.ensures.loses in
    (at_nowhere p d nowhere, λ k. subst (λ (ss : List Step). makes_at ss p.target x ≡ false) c.deref.ensures.value (own p.target))
