use Rattle.kdl.proofs.Common.{Bool, drop, ap, sym, rules, refl, length, ◌+◌, ◌-◌, ◌==◌, ◌∙◌, ◌≡◌, false, arith, ◌&&◌, nodes_on_line, nodes_tree}
use Rattle.kdl.proofs.LayingOut.Lines.{line_next}
use Rattle.kdl.proofs.layout.nodes_on_line.Goals as goal

pub returns-then-not-is_on_line : goal.returns-then-not-is_on_line
returns-then-not-is_on_line c =
    let ns = c.args.nodes.now in
    let i = c.loop-i.i in
    let bad : c.is_on_line.result ≡ false = search rules in
    sym
    (c.loop-i.invariant
    ∙ line_next ns i c.index-nodes-i.result (length ns - i - 1 == 0) c.is_on_line.result (omega arith) (sym c.index-nodes-i.is) refl c.is_on_line.ensures
    ∙ ap (λ (b : Bool). b && nodes_on_line (nodes_tree (drop (i + 1) ns))) bad)
