use Rattle.kdl_layout.proofs.Common.{text_of}
use Rattle.kdl_layout.proofs.layout.before_node.Goals as goal

pub returns : goal.returns
returns c = λ level e. (text_of c.in_ok-lines.lines, c.lines_between.new.before, c.in_ok-lines.ensures level e, c.in_ok-push_empty_lines.ensures)
