use Rattle.kdl.proofs.Common.{on_ok_weaker}
use Rattle.kdl.proofs.LayingOut.LayoutCalls.{formats_node, keeps_node, node_keeps_comments, rereads_node}
use Rattle.kdl.proofs.node.KdlNode.autoformat_layout.Goals as goal

pub returns-clause-keeps : goal.returns-clause-keeps
returns-clause-keeps c = keeps_node c.lay_out_alone.result c.args.layout.now c.args.self.now c.lay_out_alone.new.self c.lay_out_alone.ensures.kept c.lay_out_alone.ensures.spaced

pub returns-clause-rereads : goal.returns-clause-rereads
returns-clause-rereads c = rereads_node c.lay_out_alone.result c.args.layout.now c.args.self.now c.lay_out_alone.new.self c.lay_out_alone.ensures.kept c.lay_out_alone.ensures.spaced c.lay_out_alone.ensures.stays

pub returns-clause-comments : goal.returns-clause-comments
returns-clause-comments c = node_keeps_comments c.lay_out_alone.result c.args.layout.now c.args.self.now c.lay_out_alone.new.self c.lay_out_alone.ensures.kept c.lay_out_alone.ensures.spaced

pub returns-clause-formatted : goal.returns-clause-formatted
returns-clause-formatted c = on_ok_weaker c.lay_out_alone.result (λ f. f.0) c.lay_out_alone.ensures.spaced

pub returns-clause-unspaced : goal.returns-clause-unspaced
returns-clause-unspaced c = formats_node c.lay_out_alone.result c.args.layout.now c.args.self.now c.lay_out_alone.new.self c.lay_out_alone.ensures.kept c.lay_out_alone.ensures.spaced
