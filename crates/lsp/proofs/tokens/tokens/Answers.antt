use Rattle.lsp.proofs.Nesting.{begun, some_json, wrote}
use Rattle.lsp.proofs.tokens.tokens.Goals as goal

pub loop-scanner-init : goal.loop-scanner-init
loop-scanner-init c =
    let one = wrote _ _ _ _ _ c.in_ok-begin_object.ensures (begun _ _ _ c.begin-out.ensures.before c.begin-out.ensures.tokens) in
    let two = wrote _ _ _ _ _ c.in_ok-key.ensures one in
    wrote _ _ _ _ _ c.in_ok-begin_array.ensures two

pub returns : goal.returns
returns c =
    let one = wrote _ _ _ _ _ c.in_ok-end_array.ensures c.loop-scanner.invariant in
    some_json _ _ c.end.result c.end.ensures.value (wrote _ _ _ _ _ c.in_ok-end_object.ensures one)

pub loop-scanner-preserved : goal.loop-scanner-preserved
loop-scanner-preserved c = c.in_ok-read.ensures _ c.loop-scanner.invariant
