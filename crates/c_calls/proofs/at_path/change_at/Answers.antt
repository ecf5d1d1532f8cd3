use Rattle.std.proofs.Common.{◌≡◌}
use Rattle.std.specs.Prelude.{IfSome, slice_get}
use Rattle.kdl.specs.Words.{nodes_of}
use Rattle.c_calls.specs.Internal.Done.{Lacks}
use Rattle.c_calls.specs.Paths.{node_at}
use Rattle.c_calls.specs.declared.status.Refused.TheVariants.{NotFound}
use Rattle.c_calls.proofs.EditSteps.{absent_at, done_at, if_err, not_opened, on_ok}
use Rattle.c_calls.proofs.at_path.change_at.Goals as goal

pub returns-in-Ok-clause-done : goal.returns-in-Ok-clause-done
returns-in-Ok-clause-done c =
    on_ok c.change_in-outcome.result (λ h. done_at c.args.path.now c.in-Some.above.now c.in-Some.last.now c.args.change c.args.document.now c.close.result c.replace-whole.result c.in-Ok.opened c.change_in-outcome.new.block
    c.in-Some.ensures.cases.0 c.replace-whole.ensures.value c.in-Ok.ensures.opened h c.close.ensures) c.change_in-outcome.ensures.done

pub returns-in-Ok-clause-absent : goal.returns-in-Ok-clause-absent
returns-in-Ok-clause-absent c =
    let P = Lacks c.args.change in
    let block = nodes_of c.in-Ok.opened.block in
    let path = c.args.path.now in
    let d = c.args.document.now in
    if_err c.change_in-outcome.result (λ r. r ≡ NotFound → IfSome (slice_get block c.in-Some.last.now) P) (λ r. r ≡ NotFound → IfSome (node_at path (nodes_of d)) P)
    (λ r h e. absent_at path c.in-Some.above.now c.in-Some.last.now d c.replace-whole.result c.in-Ok.opened P c.in-Some.ensures.cases.0 c.replace-whole.ensures.value c.in-Ok.ensures.opened (h e))
    c.change_in-outcome.ensures.absent

pub returns-in-Err-clause-absent : goal.returns-in-Err-clause-absent
returns-in-Err-clause-absent c = λ e.
    not_opened c.args.path.now c.in-Some.above.now c.in-Some.last.now c.args.document.now c.replace-whole.result (Lacks c.args.change)
    c.in-Some.ensures.cases.0 c.replace-whole.ensures.value (c.in-Err.ensures.absent e)
