use Rattle.lsp.proofs.Nesting.{begun, some_json, wrote}
use Rattle.lsp.proofs.write.null_json.Goals as goal

pub returns-clause-json : goal.returns-clause-json
returns-clause-json c = some_json _ _ c.end.result c.end.ensures.value (wrote _ _ _ _ _ c.in_ok-null.ensures (begun _ _ _ c.begin-out.ensures.before c.begin-out.ensures.tokens))
