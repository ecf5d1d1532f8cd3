use Rattle.std.specs.Fn.{FnOnceReturnsAtMut}
use Rattle.kdl_query.proofs.Editing.{edit_absent, edit_outcome}
use Rattle.kdl_query.proofs.edit.edit_at.Goals as goal

pub returns-in-Ok-clause-edited : goal.returns-in-Ok-clause-edited
returns-in-Ok-clause-edited g c =
    edit_outcome (λ r n m. FnOnceReturnsAtMut g.F.FnOnce c.args.edit n r m) c.args.path.now c.in-Some.above.now c.in-Some.last.now c.args.document.now c.close.result c.replace-whole.result c.in-Ok.opened c.edit_in-outcome.new.block
    c.in-Some.ensures.cases.0 c.replace-whole.ensures.value c.in-Ok.ensures.opened c.close.ensures c.edit_in-outcome.result c.edit_in-outcome.ensures

pub returns-in-NotFound-clause-edited : goal.returns-in-NotFound-clause-edited
returns-in-NotFound-clause-edited g c =
    edit_absent c.args.path.now c.in-Some.above.now c.in-Some.last.now c.args.document.now c.in-Err.whole c.replace-whole.result
    c.in-Some.ensures.cases.0 c.replace-whole.ensures.value (c.in-Err.ensures.absent c.in-NotFound.is) c.in-Err.ensures.back
