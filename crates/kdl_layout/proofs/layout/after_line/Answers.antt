use Rattle.kdl_layout.proofs.Common.{ap, ◌∙◌, chars-nil, past_node, settings, or_empty, node_texts}
use Rattle.kdl_layout.proofs.Spacing.Reads.{format_none, uncounted}
use Rattle.kdl_layout.proofs.layout.after_line.Goals as goal
use Rattle.kdl_layout.proofs.layout.after_line.Goals.{in_default-via-in-Some+else-layout-ne0, in_default-via-in_default}

pub returns-in_default : goal.returns-in_default
returns-in_default c =
    let l = c.args.layout.now in
    let f = or_empty (node_texts c.args.format.now) in
    elim c.in_default.branch [
      | in_default-via-in-Some+else-layout-ne0 w ↦ uncounted l.blank_lines (settings l.config) (past_node f.terminator) c.past_node.result f.trailing w.if-layout-ne0.false
      | in_default-via-in_default w ↦ rw w.in_default.is (format_none l.blank_lines (settings l.config) c.past_node.result (c.past_node.ensures ∙ ap past_node chars-nil))
    ]
