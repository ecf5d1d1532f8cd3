use Rattle.kdl.proofs.Common.{◌<◌, ◌+◌, arith, is_some, sym, subst, node_format_tree, EndsReadAs, block_if}
use Rattle.kdl.proofs.Putting.Exact.{something_lacking}
use Rattle.kdl.proofs.ends.ended.Goals as goal
use Rattle.kdl.proofs.ends.ended.Goals.{else-before-eq0-via-then-before-eq0+else-end-eq0, else-before-eq0-via-else-before-eq0}

pub returns-clause-reads : goal.returns-clause-reads
returns-clause-reads c = subst (EndsReadAs c.args.rest (block_if (is_some c.args.children.now)) (node_format_tree c.args.format.now)) (sym c.in_ok-with_newlines.ensures) c.in_ok-before.ensures.reads

pub returns-clause-exact : goal.returns-clause-exact
returns-clause-exact c =
    let some : 0 < c.in_ok-before.before + c.in_ok-before.end = elim c.else-before-eq0.branch [
      | else-before-eq0-via-then-before-eq0+else-end-eq0 w ↦ omega (arith, w.if-end-eq0.false)
      | else-before-eq0-via-else-before-eq0 w ↦ omega (arith, w.if-before-eq0.false)
    ] in
    something_lacking c.args.rest (block_if (is_some c.args.children.now)) (node_format_tree c.args.format.now) (node_format_tree c.in_ok-with_newlines.field-0) c.in_ok-before.before c.in_ok-before.end
    c.in_ok-before.ensures.lacks some c.in_ok-with_newlines.ensures c.in_ok-before.ensures.fewest
