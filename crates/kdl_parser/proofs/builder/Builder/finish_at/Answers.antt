use Rattle.std.proofs.Common.{rules}
use Rattle.kdl_parser.proofs.Stepping.Endings.{node_finishes, kept_finishes}
use Rattle.kdl_parser.proofs.builder.Builder.finish_at.Goals as goal

pub returns-in_ok-end_node-in-InNode : goal.returns-in_ok-end_node-in-InNode
returns-in_ok-end_node-in-InNode g c =
    let there = c.in_ok-end_node-in-InNode.ensures in
    let x = c.finish_nodes-in-InNode.ensures in
    record { finished = node_finishes g.N.ParsedNode.tree c.args.self.now c.end_node.new.self c.in-InNode.field-0 c.args.here.now c.nothing_at.result c.finish_nodes-in-InNode.result c.requires.ready.live c.in-InNode.is c.requires.end c.nothing_at.ensures.start c.nothing_at.ensures.end there.ended.did there.after.live there.ended.same.text x.finished; same = search rules; sliced = search rules }

pub returns-in_ok-end_kept-in-Kept : goal.returns-in_ok-end_kept-in-Kept
returns-in_ok-end_kept-in-Kept g c =
    let there = c.in_ok-end_kept-in-Kept.ensures in
    let x = c.finish_nodes-in-Kept.ensures in
    record { finished = kept_finishes g.N.ParsedNode.tree c.args.self.now c.end_kept.new.self c.args.here.now c.nothing_at-in-Kept.result c.finish_nodes-in-Kept.result c.requires.ready.live c.in-Kept.is c.requires.end c.nothing_at-in-Kept.ensures.start c.nothing_at-in-Kept.ensures.end there.ended.did there.after.live there.ended.same.text x.finished; same = search rules; sliced = search rules }
