use Rattle.std.proofs.Common.{rules, ◌≡◌, ◌++◌, ◌∷◌, [], map, sym, ap, ◌∙◌}
use Rattle.std.proofs.lemmas.List.{take_all}
use Rattle.std.specs.List.{filter_map}
use Rattle.kdl.specs.Words.{document_says, node_says, said_nodes}
use Rattle.kdl_path.specs.Paths.{nodes_at, value_in}
use Rattle.kdl_path.proofs.Reached.{value_missed, value_pushed}
use Rattle.kdl_path.proofs.lookup.get_all.Goals as goal
use Rattle.kdl_path.proofs.lookup.get_all.Goals.{in-Some+in_ok-push, in_default}

pub loop-node-init : goal.loop-node-init
loop-node-init c = ap (map _) c.new-values.ensures.items

pub loop-node-preserved : goal.loop-node-preserved
loop-node-preserved c =
    let t = c.args.path.now.target in
    let bs = c.deref-node-items.result.now in
    let i = c.loop-node.node-index in
    let b = c.node-item.result in
    let vs = c.loop-node.values.items in
    elim c.match-value_of.branch [
      | in-Some+in_ok-push w ↦
          let items : w.push.new.self.items ≡ vs ++ (w.in-Some.value ∷ []) = search rules in
          value_pushed t bs i b vs c.match-value_of.values.items w.in-Some.value c.loop-node-test.true (sym c.node-item.is) w.in-Some.ensures (ap (λ v. v.items) w.values-is ∙ items) c.loop-node.invariant
      | in_default w ↦
          value_missed t bs i b vs c.match-value_of.values.items c.loop-node-test.true (sym c.node-item.is) w.in_default.ensures (ap (λ v. v.items) w.values-is) c.loop-node.invariant
    ]

pub returns : goal.returns
returns c =
    let t = c.args.path.now.target in
    let i = c.loop-node.node-index in
    let bs = c.deref-node-items.result.now in
    c.loop-node.invariant
    ∙ ap (λ l. filter_map (value_in t) (map (λ n. node_says n.now) l)) (take_all i bs c.loop-node-test.false ∙ c.deref-node-items.ensures.value)
    ∙ ap (filter_map (value_in t)) (c.in_ok-nodes.ensures ∙ ap (λ ss. nodes_at ss (said_nodes (document_says c.args.document.now))) c.deref.ensures.value)
