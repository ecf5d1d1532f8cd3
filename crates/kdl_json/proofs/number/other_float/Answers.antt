-- The value of a float in an object.
use Rattle.std.proofs.Common.{ap, sym, subst, refl, ◌∙◌}
use Rattle.std.specs.Prelude.{Err}
use Rattle.kdl_text.specs.Chars.{Text}
use Rattle.kdl_value.specs.Data.{float}
use Rattle.kdl_json.specs.Values.{IsFloatOf}
use Rattle.kdl_json.proofs.Values.{float_object, has_float, has_no_number, is_object}
use Rattle.kdl_json.proofs.number.other_float.Goals as goal

pub returns-then-is_number-clause-found : goal.returns-then-is_number-clause-found
returns-then-is_number-clause-found c = λ x w h. has_no_number x c.args.text.now h (c.if-is_number.ensures.0 refl)

pub returns-in-Ok-clause-written : goal.returns-in-Ok-clause-written
returns-in-Ok-clause-written c =
    subst (λ (t : Text). IsFloatOf c.args.text.now (float t)) (sym c.in-Ok.ensures.kept)
    (float_object c.args.text.now c.utf8.text (λ n. let t = c.if-is_number.ensures.1 n in cc))

pub returns-in-Ok-clause-found : goal.returns-in-Ok-clause-found
returns-in-Ok-clause-found c = λ x w h. ap float c.in-Ok.ensures.kept ∙ is_object x c.args.text.now c.utf8.text h

pub returns-in-Err-NotAFloat-clause-found : goal.returns-in-Err-NotAFloat-clause-found
returns-in-Err-NotAFloat-clause-found c = λ x w h. c.in-Err-NotAFloat.ensures.refused.0 (ap Err c.in-Err-NotAFloat.field-0-is) (has_float x c.args.text.now c.utf8.text w h)
