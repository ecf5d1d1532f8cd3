use Rattle.kdl_laws.proofs.Common.{document_tree, settings}
use Rattle.kdl_laws.proofs.TwoLayouts.{twice}
use Rattle.kdl_laws.proofs.layout.laid_out_twice.Goals as goal

pub returns : goal.returns
returns c =
    twice c.autoformat_config-2.result (settings c.args.config.now) c.args.config.now.indent_level (document_tree c.args.document.now) (document_tree c.autoformat_config.new.self) (document_tree c.autoformat_config-2.new.self)
    c.requires.indent c.requires.keeps_none_after c.requires.keeps_none c.in_ok-autoformat_config.ensures.formats.formatted c.autoformat_config-2.ensures.formats.formatted
