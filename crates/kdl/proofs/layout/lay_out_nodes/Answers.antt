use Rattle.kdl.proofs.Common.{None, map, rules, settings, node_tree, LayoutFrame}
use Rattle.kdl.proofs.LayingOut.BlockSteps.{all_laid}
use Rattle.kdl.proofs.LayingOut.StaysReading.{all_stays, stay_same}
use Rattle.kdl.proofs.layout.lay_out_nodes.Goals as goal

pub returns-then-is_empty-clause-stays : goal.returns-then-is_empty-clause-stays
returns-then-is_empty-clause-stays c ok = stay_same (settings c.args.layout.now.config) (map node_tree c.args.nodes.now.items)

pub returns-in_err-before-clause-stays : goal.returns-in_err-before-clause-stays
returns-in_err-before-clause-stays c ok = stay_same (settings c.args.layout.now.config) (map node_tree c.args.nodes.now.items)

pub returns-clause-stays : goal.returns-clause-stays
returns-clause-stays c ok =
    let b : LayoutFrame = record { nodes = c.replace.result; at = 0; level = c.args.level; before = c.in_ok-before.before; next = c.args.first; around = None } in
    let new = c.lay_out-outcome.new.self in
    all_stays c.args.layout.now c.args.level c.args.first c.args.nodes.now.items c.into_nodes.result.items c.new-above.result.items c.lay_out-outcome.new.above.items b new
    (search rules) (search rules) (search rules) (search rules) (search rules) (search rules) (search rules) (c.lay_out-outcome.ensures.stays ok)

pub returns-clause-spaced : goal.returns-clause-spaced
returns-clause-spaced c =
    let b : LayoutFrame = record { nodes = c.replace.result; at = 0; level = c.args.level; before = c.in_ok-before.before; next = c.args.first; around = None } in
    let new = c.lay_out-outcome.new.self in
    all_laid c.lay_out-outcome.result c.args.layout.now c.args.level c.args.first c.args.nodes.now.items c.into_nodes.result.items c.new-above.result.items c.lay_out-outcome.new.above.items b new
    (search rules) (search rules) (search rules) (search rules) (search rules) (search rules) (search rules) c.lay_out-outcome.ensures.spaced
