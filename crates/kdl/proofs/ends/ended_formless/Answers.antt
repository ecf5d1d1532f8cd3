use Rattle.kdl.proofs.Common.{map, entry_tree}
use Rattle.kdl.proofs.Putting.NodeEnds.{empty_string, formless_made, newline_put}
use Rattle.kdl.proofs.ends.ended_formless.Goals as goal

pub returns : goal.returns
returns c =
    formless_made c.new-format.result c.in_ok-before_children.before_children c.push_text.new.out (map entry_tree c.args.entries.now) c.new-format.ensures c.in_ok-before_children.ensures
    (newline_put _ _ (empty_string c.new-terminator.result c.new-terminator.ensures.bytes) c.in_ok-push_text.ensures)
