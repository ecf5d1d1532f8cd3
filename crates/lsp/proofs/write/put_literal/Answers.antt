use Rattle.std.proofs.Common.{rules, refl}
use Rattle.std.proofs.lemmas.Result.{on_ok_weaker}
use Rattle.json.specs.Json as json
use Rattle.json.specs.Print.{IsNumber}
use Rattle.lsp.proofs.write.put_literal.Goals as goal

pub returns-then-is_number-clause-written : goal.returns-then-is_number-clause-written
returns-then-is_number-clause-written c =
    let is : IsNumber c.args.text.now = search rules in
    on_ok_weaker c.number.result (λ e. (json.number c.args.text.now, is, (λ h. refl), e)) c.number.ensures.ok

pub returns-else-is_number-clause-written : goal.returns-else-is_number-clause-written
returns-else-is_number-clause-written c =
    let bad : IsNumber c.args.text.now → ⊥ = search rules in
    on_ok_weaker c.null.result (λ e. (json.null, tt, (λ h. absurd (bad h)), e)) c.null.ensures.ok
