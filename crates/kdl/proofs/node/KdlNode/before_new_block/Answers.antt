use Rattle.kdl.proofs.Putting.Exact.{begins_fewest}
use Rattle.kdl.proofs.Common.{ap, arith, subst, chars, Text, text_of, no_children, PlaceFewest, node_format_tree, node_texts}
use Rattle.kdl.specs.declared.node.KdlNode.{out-KdlNode}
use Rattle.kdl.proofs.Putting.ChildReads.{place_says, text_says}
use Rattle.kdl.proofs.Putting.NodeEnds.{copy_put}
use Rattle.kdl.proofs.node.KdlNode.before_new_block.Goals as goal

pub returns-clause-says : goal.returns-clause-says
returns-clause-says c =
    text_says (node_texts (out-KdlNode c.args.self.now).format) (node_format_tree c.in-Some.format) c.in_ok-lacks.lacks (chars c.deref.result.now) (text_of c.push_newlines.new.text) (ap node_texts c.in-Some.is)
    (ap chars c.deref.ensures) c.in_ok-lacks.ensures.says
    (copy_put (text_of c.push_newlines.new.text) c.in_ok-before.before c.in-Some.format.before_terminator c.in_ok-lacks.lacks c.in_ok-before.ensures.cases c.in_ok-push_newlines.ensures)

pub returns-then-lacks-eq0-clause-says : goal.returns-then-lacks-eq0-clause-says
returns-then-lacks-eq0-clause-says c =
    place_says (node_texts (out-KdlNode c.args.self.now).format) (node_format_tree c.in-Some.format) c.in_ok-lacks.lacks (chars c.deref.result.now) (ap node_texts c.in-Some.is) (ap chars c.deref.ensures) c.if-lacks-eq0.true
    c.in_ok-lacks.ensures.says

pub returns-clause-fewest : goal.returns-clause-fewest
returns-clause-fewest c =
    begins_fewest (node_texts (out-KdlNode c.args.self.now).format) (node_format_tree c.in-Some.format) (text_of c.push_newlines.new.text) c.in_ok-lacks.lacks (ap node_texts c.in-Some.is)
    (omega (arith, c.if-lacks-eq0.false)) c.in_ok-lacks.ensures.few
    (copy_put (text_of c.push_newlines.new.text) c.in_ok-before.before c.in-Some.format.before_terminator c.in_ok-lacks.lacks c.in_ok-before.ensures.cases c.in_ok-push_newlines.ensures)
    (subst (λ (t : Text). PlaceFewest no_children t c.in_ok-lacks.lacks) (ap chars c.deref.ensures) c.in_ok-lacks.ensures.fewest)
