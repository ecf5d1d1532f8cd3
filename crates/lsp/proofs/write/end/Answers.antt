use Rattle.std.proofs.Common.{◌≡◌, ◌++◌, ◌∙◌, ap, string_bytes}
use Rattle.json.specs.Print.{print}
use Rattle.lsp.proofs.Nesting.{written_numbers}
use Rattle.lsp.proofs.write.end.Goals as goal

pub returns-in-Ok-clause-value : goal.returns-in-Ok-clause-value
returns-in-Ok-clause-value c j w =
    let bytes : string_bytes c.in-Ok.text ≡ c.into_inner.result.items = ap (λ v. v.items) c.in-Ok.ensures.ok in
    (written_numbers j c.args.out.tokens c.into_inner.ensures.reads_back w.1, bytes ∙ c.into_inner.ensures.items ∙ ap (λ b. b ++ print c.args.out.tokens) w.0 ∙ ap print w.1)
