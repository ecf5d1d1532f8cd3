use Rattle.std.proofs.Common.{◌≡◌, ◌++◌, [], length, sym, ap, ◌∙◌}
use Rattle.std.specs.Str.{chars}
use Rattle.std.proofs.lemmas.Bool.{eqb-true, eq-eqb, false≢true}
use Rattle.std.proofs.lemmas.List.{append-nil, nil_from_length}
use Rattle.std.proofs.lemmas.Str.{chars-nil, encodes-chars}
use lib.Utf8.{encodes}
use Rattle.kdl_report.specs.Picture.{spaced}
use Rattle.kdl_report.specs.Shown.{text_of}
use Rattle.kdl_report.proofs.Appended.{and_last, as_last, spaced_some}
use Rattle.kdl_report.proofs.picture.put_spaced.Goals as goal

pub returns-then-is_empty : goal.returns-then-is_empty
returns-then-is_empty c =
    let none : chars c.args.text.now ≡ [] = ap chars (nil_from_length _ (eqb-true _ _ (sym c.is_empty.ensures ∙ c.if-is_empty.true))) ∙ chars-nil in
    sym (ap (λ z. text_of c.args.out.now ++ spaced z) none ∙ append-nil (text_of c.args.out.now))

pub returns : goal.returns
returns c =
    let some : chars c.args.text.now ≡ [] → ⊥ = λ h.
    let none : c.args.text.now ≡ [] = sym (encodes-chars _ c.utf8.text) ∙ ap encodes h in
    false≢true (sym c.if-is_empty.false ∙ c.is_empty.ensures ∙ eq-eqb _ _ (ap length none)) in
    as_last c.put_shown.result _ _ _ _ (and_last c.put_shown.result _ _ _ _ _ c.in_ok-put_char.ensures c.put_shown.ensures) (spaced_some _ some)
