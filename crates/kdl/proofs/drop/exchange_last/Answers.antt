use Rattle.kdl.proofs.Common.{rules, ◌-◌, ap, sym}
use Rattle.kdl.proofs.NodeCounts.{exchanged}
use Rattle.kdl.proofs.drop.exchange_last.Goals as goal

pub returns-clause-kept : goal.returns-clause-kept
returns-clause-kept c =
    (exchanged c.args.nodes.now.items (c.len-last.result - 1) c.index_mut.result.now c.exchange_children.new.self c.exchange_children.result c.args.children (search rules) (sym c.index_mut.ensures.value) c.exchange_children.ensures.had (ap (λ n. n.children) c.exchange_children.ensures.has)).0

pub returns-clause-less : goal.returns-clause-less
returns-clause-less c =
    (exchanged c.args.nodes.now.items (c.len-last.result - 1) c.index_mut.result.now c.exchange_children.new.self c.exchange_children.result c.args.children (search rules) (sym c.index_mut.ensures.value) c.exchange_children.ensures.had (ap (λ n. n.children) c.exchange_children.ensures.has)).1
