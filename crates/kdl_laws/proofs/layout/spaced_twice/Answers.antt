use Rattle.kdl_laws.proofs.Common.{document_tree, settings}
use Rattle.kdl_layout.specs.Config.{keeping}
use Rattle.kdl_laws.proofs.TwoLayouts.{spaced_twice}
use Rattle.kdl_laws.proofs.layout.spaced_twice.Goals as goal

pub returns : goal.returns
returns c =
    let l = c.args.layout.now in
    spaced_twice c.autoformat_layout-2.result (keeping l) l.keep_one_line l.compact_empty l.blank_lines (settings l.config) l.config.indent_level (document_tree c.args.document.now) (document_tree c.autoformat_layout.new.self) (document_tree c.autoformat_layout-2.new.self)
    c.requires.indent c.requires.keeps_none_after c.requires.keeps_none c.in_ok-autoformat_layout.ensures.formatted c.autoformat_layout-2.ensures.formatted
