use Rattle.std.proofs.Common.{◌++◌, ◌∙◌, ap}
use Rattle.lsp.specs.Formatting.{edits_tokens}
use Rattle.lsp.proofs.Edits.{edits_end}
use Rattle.lsp.proofs.Nesting.{begun, some_json}
use Rattle.lsp.proofs.format.edits_json.Goals as goal

pub returns-clause-json : goal.returns-clause-json
returns-clause-json c =
    let e = c.in_ok-put_edits.ensures in
    let b = c.begin-out.ensures in
    let tokens = e.written ∙ ap (λ ts. ts ++ edits_tokens c.args.edits.now) b.tokens in
    some_json _ _ c.end.result c.end.ensures.value (begun _ _ (edits_tokens c.args.edits.now) (e.before ∙ b.before) tokens ∙ edits_end c.args.edits.now)
