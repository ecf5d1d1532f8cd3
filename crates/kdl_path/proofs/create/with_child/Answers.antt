use Rattle.std.proofs.Common.{◌∙◌, ap}
use Rattle.kdl.specs.Words.{node_says}
use Rattle.kdl_path.specs.Edits.{node_with_child}
use Rattle.kdl_path.proofs.create.with_child.Goals as goal

pub returns-clause-says : goal.returns-clause-says
returns-clause-says c =
    c.in_ok-push_child.ensures.says
    ∙ ap (λ y. node_with_child y (node_says c.in_ok-node.node)) c.in_ok-child.ensures.says
    ∙ ap (node_with_child (node_says c.args.child)) c.in_ok-node.ensures.says

pub returns-clause-reads : goal.returns-clause-reads
returns-clause-reads c = λ r. c.in_ok-push_child.ensures.reads (c.in_ok-child.ensures.reads _ r) _ c.in_ok-node.ensures.reads
