use Rattle.kdl.proofs.Common.{rules, settings, defaults, RereadsNode}
use Rattle.kdl.proofs.LayingOut.LayoutCalls.{settled, spaces_are}
use Rattle.kdl.proofs.node.KdlNode.autoformat.Goals as goal

pub returns-clause-rereads : goal.returns-clause-rereads
returns-clause-rereads c =
    settled (settings c.build-config.result) defaults (λ s. RereadsNode s c.args.self.now c.autoformat_config.new.self c.autoformat_config.result) (search rules) spaces_are c.autoformat_config.ensures.rereads
