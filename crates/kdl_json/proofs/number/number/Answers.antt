-- The value of a number.
use Rattle.std.proofs.Common.{◌≡◌, ℤ, ap, sym, subst, refl, ◌∙◌}
use Rattle.std.specs.Int.{w128}
use Rattle.std.specs.Prelude.{Err}
use Rattle.std.proofs.lemmas.Int.{to_z-of_z}
use mir.Val.{of_z, to_z}
use Rattle.kdl_text.specs.Chars.{Text}
use Rattle.kdl_value.specs.Data.{integer, float}
use Rattle.kdl_json.specs.Values.{IsNumberOf}
use Rattle.kdl_json.proofs.Values.{float_number, has_number, is_float, is_whole}
use Rattle.kdl_json.proofs.number.number.Goals as goal

pub returns-then-not-is_number-clause-found : goal.returns-then-not-is_number-clause-found
returns-then-not-is_number-clause-found c = λ x w h. let t = c.if-not-is_number.ensures.1 (has_number x c.args.text.now w h) in cc

pub returns-in-Ok-clause-written : goal.returns-in-Ok-clause-written
returns-in-Ok-clause-written c =
    subst (λ (t : Text). IsNumberOf c.args.text.now (float t)) (sym c.in-Ok.ensures.kept)
    (float_number c.args.text.now c.utf8.text (c.if-not-is_number.ensures.0 refl))

pub returns-in-Ok-clause-found : goal.returns-in-Ok-clause-found
returns-in-Ok-clause-found c = λ x w h. ap float c.in-Ok.ensures.kept ∙ is_float x c.args.text.now c.utf8.text w h c.in-Ok.ensures.float

pub returns-in-Some-clause-found : goal.returns-in-Some-clause-found
returns-in-Some-clause-found c = λ x w h.
    let k = is_whole x c.args.text.now c.utf8.text w h (c.in-Err-NotAFloat.ensures.refused.0 (ap Err c.in-Err-NotAFloat.field-0-is)) in
    let e = c.whole.ensures.found k.number k.fits k.text in
    let was = c.in-Some.is in
    let same : c.in-Some.n ≡ k.number = cc in
    ap (λ (y : ℤ). integer (to_z w128 (of_z w128 y))) same ∙ ap integer (to_z-of_z w128 k.number k.fits) ∙ sym k.is

pub returns-in-None-clause-found : goal.returns-in-None-clause-found
returns-in-None-clause-found c = λ x w h.
    let k = is_whole x c.args.text.now c.utf8.text w h (c.in-Err-NotAFloat.ensures.refused.0 (ap Err c.in-Err-NotAFloat.field-0-is)) in
    let e = c.whole.ensures.found k.number k.fits k.text in
    let was = c.in-None.is in
    cc
