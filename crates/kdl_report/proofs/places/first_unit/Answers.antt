use Rattle.std.proofs.Common.{◌≡◌, [], ◌∷◌, false, refl, sym, add-zero, ◌∙◌}
use Rattle.std.specs.Str.{chars}
use Rattle.std.proofs.lemmas.Bool.{and_left, and_right, ne_eqb}
use Rattle.kdl_report.specs.Places.{is_cr_lf}
use Rattle.kdl_report.specs.Spots.IsUnit.{cr_lf, one}
use Rattle.kdl_report.proofs.places.first_unit.Goals as goal
use Rattle.kdl_report.proofs.places.first_unit.Goals.{then-c-eq13+in_default, else-c-eq13}

pub returns-in-Some : goal.returns-in-Some
returns-in-Some c =
    let both : chars c.args.text.now ≡ 13 ∷ 10 ∷ chars c.in-Some.rest.now = cc (c.in_ok-c.ensures.parts, c.if-c-eq13.true, c.in-Some.ensures.parts) in
    record { unit = 13 ∷ 10 ∷ []; whole = both; is = cr_lf; len = refl; utf8 = c.in-Some.ensures.utf8 }

pub returns : goal.returns
returns c =
    let plain : is_cr_lf c.in_ok-c.c (chars c.in_ok-c.rest.now) ≡ false =
    elim c.if-c-eq13.branch [
      | then-c-eq13+in_default w ↦ and_right _ _ w.in_default.ensures.parts
      | else-c-eq13 w ↦ and_left _ _ (ne_eqb _ _ w.if-c-eq13.false)
    ] in
    record { unit = c.in_ok-c.c ∷ []; whole = c.in_ok-c.ensures.parts; is = one plain (sym c.is_newline_char.ensures); len = add-zero _ ∙ sym c.len_utf8.ensures.value; utf8 = c.in_ok-c.ensures.utf8 }
