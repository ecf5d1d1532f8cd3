-- A whole number that is written as the text is the one that is parsed.
use Rattle.std.proofs.Common.{◌≡◌, ℤ, Some, ap, sym, ◌∙◌}
use Rattle.std.specs.Int.{w128}
use Rattle.std.specs.Fmt.{signed_decimal}
use Rattle.std.proofs.lemmas.Int.{to_z-of_z}
use Rattle.std.proofs.lemmas.Slice.Eq.{bytes_eq-Decides}
use mir.Val.{of_z, to_z}
use Rattle.kdl_json.proofs.Numbers.{parse-written}
use Rattle.kdl_json.proofs.number.whole.Goals as goal

pub returns-in_default-clause-found : goal.returns-in_default-clause-found
returns-in_default-clause-found c = λ z fits is. absurd (c.in_default.not-Ok z (parse-written z c.args.text.now c.parse.result fits is c.parse.ensures.value.0))

pub returns-then-eq-clause-found : goal.returns-then-eq-clause-found
returns-then-eq-clause-found c = λ z fits is.
    let e = parse-written z c.args.text.now c.parse.result fits is c.parse.ensures.value.0 in
    let was = c.in-Ok.is in
    let same : c.in-Ok.n ≡ z = cc in
    ap (λ (y : ℤ). Some (to_z w128 (of_z w128 y))) same ∙ ap Some (to_z-of_z w128 z fits)

pub returns-else-eq-clause-found : goal.returns-else-eq-clause-found
returns-else-eq-clause-found c = λ z fits is.
    let e = parse-written z c.args.text.now c.parse.result fits is c.parse.ensures.value.0 in
    let was = c.in-Ok.is in
    let same : c.in-Ok.n ≡ z = cc in
    let text : c.format.result.now ≡ c.args.text.now =
    c.format.ensures.text ∙ ap (λ (y : ℤ). signed_decimal (to_z w128 (of_z w128 y))) same ∙ ap signed_decimal (to_z-of_z w128 z fits) ∙ sym is in
    let yes = (bytes_eq-Decides c.format.result.now c.args.text.now).1 text in
    let no' = c.if-eq.ensures in
    cc
