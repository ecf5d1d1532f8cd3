use Rattle.kdl_laws.proofs.Common.{node_tree, settings}
use Rattle.kdl_laws.proofs.TwoLayouts.{node_twice}
use Rattle.kdl_laws.proofs.layout.node_laid_out_twice.Goals as goal

pub returns : goal.returns
returns c =
    node_twice c.autoformat_config-2.result (settings c.args.config.now) c.args.config.now.indent_level (node_tree c.args.node.now) (node_tree c.autoformat_config.new.self) (node_tree c.autoformat_config-2.new.self)
    c.requires.indent c.requires.keeps_none_after c.requires.keeps_none c.in_ok-autoformat_config.ensures.formats.formatted c.autoformat_config-2.ensures.formats.formatted
