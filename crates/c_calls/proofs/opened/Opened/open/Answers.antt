use Rattle.std.proofs.Common.{drop, refl, slice_index_or}
use Rattle.c_calls.proofs.OpenSteps.{next}
use Rattle.c_calls.proofs.opened.Opened.open.Goals as goal

pub loop-index-preserved : goal.loop-index-preserved
loop-index-preserved c =
    let path = c.args.path.now in
    let i = c.loop-index.index-index in
    next (slice_index_or path i 0) i (drop i path) path c.args.document c.loop-index.opened c.enter.new.self c.loop-index-test.true refl refl
    c.loop-index.invariant c.in_default.ensures.entered
