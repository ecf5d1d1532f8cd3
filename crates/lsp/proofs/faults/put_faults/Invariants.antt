-- The faults so far are written.
use Rattle.std.proofs.Common.{◌≡◌, ◌++◌, List, take}
use Rattle.json.specs.Token.{Token}
use Rattle.lsp.specs.Faults.{AreDiagnostics}
use Rattle.lsp.proofs.faults.put_faults.Given as goal

abbrev pub invariant-loop-fault : goal.invariant-loop-fault
invariant-loop-fault l =
    (l.report.cursor.text.now ≡ l.text) × (l.report.cursor.encoding ≡ l.fn.client.encoding) × (l.out.before ≡ l.fn.out.before)
    × ((ts : List Token) × AreDiagnostics l.fn.client.encoding l.text (take l.fault-index l.faults) ts × (l.out.tokens ≡ l.fn.out.tokens ++ ts))
