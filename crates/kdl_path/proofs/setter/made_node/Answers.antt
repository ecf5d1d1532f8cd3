use Rattle.std.proofs.Common.{◌≡◌, ◌∙◌, ap, drop, sym, true}
use Rattle.kdl_path.specs.Edits.{made_below, new_node, node_with_entry}
use Rattle.kdl_path.specs.Internal.Located.{makes_new}
use Rattle.kdl_path.proofs.Changes.{if_err, if_ok}
use Rattle.kdl_path.proofs.Failing.{all_ok, memory_misses}
use Rattle.kdl_path.proofs.setter.made_node.Goals as goal

pub returns-in_default-clause-missing : goal.returns-in_default-clause-missing
returns-in_default-clause-missing c = λ h.
    let t = c.args.path.now.target in
    let ns = c.args.nodes.now in
    ap (λ ss. makes_new (drop c.args.number ss) t ns) (sym c.deref.ensures.value) ∙ ap (λ ss. makes_new ss t ns) (sym c.steps_from-rest.ensures) ∙ c.in_default.ensures.none h

pub returns-clause-created : goal.returns-clause-created
returns-clause-created c =
    let t = c.args.path.now.target in
    let ns = c.args.nodes.now in
    let some = c.in-Some.ensures.some in
    let makes : makes_new (drop c.args.number c.args.path.now.steps.items) t ns ≡ true =
    ap (λ ss. makes_new (drop c.args.number ss) t ns) (sym c.deref.ensures.value) ∙ ap (λ ss. makes_new ss t ns) (sym c.steps_from-rest.ensures) ∙ some.1 in
    all_ok c.new_node.result _ (λ n. (some.0, makes))

pub returns-clause-made : goal.returns-clause-made
returns-clause-made c =
    if_ok c.new_node.result _ _ (λ n made ok.
    let new = c.in_ok-entry.ensures ok in
    let x = made new.reads in
    record {
      first = x.first;
      below = x.below;
      steps = ap (drop c.args.number) (sym c.deref.ensures.value) ∙ sym c.steps_from-rest.ensures ∙ c.in-Some.ensures.some.2 ∙ x.steps;
      says = x.says ∙ ap (λ e. made_below x.below (node_with_entry e) (new_node x.first)) new.says;
      reads = x.reads;
    }) c.new_node.ensures.made

pub returns-clause-missing : goal.returns-clause-missing
returns-clause-missing c = if_err c.new_node.result _ _ (λ e h. memory_misses _ e h) c.new_node.ensures.memory
