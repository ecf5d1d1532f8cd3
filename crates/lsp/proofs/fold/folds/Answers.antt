use Rattle.lsp.proofs.Nesting.{begun, some_json, wrote}
use Rattle.lsp.proofs.fold.folds.Goals as goal

pub loop-scanner-init : goal.loop-scanner-init
loop-scanner-init c = wrote _ _ _ _ _ c.in_ok-begin_array.ensures (begun _ _ _ c.begin-out.ensures.before c.begin-out.ensures.tokens)

pub returns : goal.returns
returns c = some_json _ _ c.end.result c.end.ensures.value (wrote _ _ _ _ _ c.in_ok-end_array.ensures (c.in_ok-put_run.ensures _ c.loop-scanner.invariant))

pub loop-scanner-preserved : goal.loop-scanner-preserved
loop-scanner-preserved c = c.in_ok-read.ensures _ c.loop-scanner.invariant
