use Rattle.kdl.proofs.Common.{on_ok_weaker}
use Rattle.kdl.proofs.LayingOut.LayoutCalls.{formats_document, keeps_comments, keeps_document, rereads_document}
use Rattle.kdl.proofs.document.KdlDocument.autoformat_layout.Goals as goal

pub returns-clause-keeps : goal.returns-clause-keeps
returns-clause-keeps c = keeps_document c.lay_out.result c.args.layout.now c.args.self.now c.lay_out.new.self c.lay_out.ensures.kept c.lay_out.ensures.spaced

pub returns-clause-rereads : goal.returns-clause-rereads
returns-clause-rereads c = rereads_document c.lay_out.result c.args.layout.now c.args.self.now c.lay_out.new.self c.lay_out.ensures.kept c.lay_out.ensures.spaced c.lay_out.ensures.reads_back

pub returns-clause-comments : goal.returns-clause-comments
returns-clause-comments c = keeps_comments c.lay_out.result c.args.layout.now c.args.self.now c.lay_out.new.self c.lay_out.ensures.kept c.lay_out.ensures.spaced

pub returns-clause-formatted : goal.returns-clause-formatted
returns-clause-formatted c = on_ok_weaker c.lay_out.result (λ f. f.0) c.lay_out.ensures.spaced

pub returns-clause-unspaced : goal.returns-clause-unspaced
returns-clause-unspaced c = formats_document c.lay_out.result c.args.layout.now c.args.self.now c.lay_out.new.self c.lay_out.ensures.kept c.lay_out.ensures.spaced
