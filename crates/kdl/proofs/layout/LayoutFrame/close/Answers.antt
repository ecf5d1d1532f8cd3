use Rattle.kdl.proofs.Common.{rules, ◌++◌, ◌∷◌, [], ap, ◌∙◌, with_item, whole, LayoutFrame}
use Rattle.kdl.proofs.LayingOut.BlockSteps.{node_changed, end_whole, end_whole_none}
use Rattle.kdl.proofs.layout.LayoutFrame.close.Goals as goal

pub returns-in-Some : goal.returns-in-Some
returns-in-Some c above =
    let r = c.replace-done in
    let o = r.new.dest in
    let e = r.ensures in
    let b : LayoutFrame = record { nodes = with_item o.nodes o.at c.exchange_nodes.new.self; at = o.at; level = o.level; before = o.before; next = o.next; around = o.around } in
    end_whole above o r.result b c.in-Some.node.now c.exchange_nodes.new.self (search rules) (search rules)
    (node_changed c.in-Some.node.now c.exchange_nodes.new.self r.result.nodes c.exchange_nodes.ensures.has) (search rules)
    ∙ ap (λ z. whole (above ++ z ∷ []) r.result) e.after
    ∙ ap (λ i. whole (above ++ c.args.outer ∷ []) i) e.value

pub returns-in_default : goal.returns-in_default
returns-in_default c above =
    let r = c.replace-done in
    let o = r.new.dest in
    let e = r.ensures in
    end_whole_none above o r.result o (search rules) (search rules)
    ∙ ap (λ z. whole (above ++ z ∷ []) r.result) e.after
    ∙ ap (λ i. whole (above ++ c.args.outer ∷ []) i) e.value
