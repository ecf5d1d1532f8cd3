use Rattle.std.proofs.Common.{◌≡◌, ◌++◌, [], ◌∷◌, chars, length, sym, ap, ◌∙◌}
use Rattle.std.proofs.lemmas.Bool.{eqb-true, eq-eqb, false≢true}
use Rattle.std.proofs.lemmas.List.{append-nil, nil_from_length}
use Rattle.kdl_text.specs.Chars.{Text}
use Rattle.kdl_report.specs.Picture.{spaced}
use Rattle.kdl_report.specs.Shown.{shown, text_of}
use Rattle.kdl_report.specs.Spots.{excerpt_row}
use Rattle.kdl_report.proofs.Appended.{and_last, and_then, as_last, line_shown, spaced_some}
use Rattle.kdl_report.proofs.picture.put_line.Goals as goal

pub returns-then-is_blank : goal.returns-then-is_blank
returns-then-is_blank c =
    let line = (excerpt_row c.args.excerpt.now).line in
    let none : line ≡ [] = nil_from_length _ (eqb-true _ _ (sym c.is_blank.ensures ∙ c.if-is_blank.true)) in
    sym (ap (λ z. text_of c.args.out.now ++ spaced z) none ∙ append-nil (text_of c.args.out.now))

pub returns : goal.returns
returns c =
    let e = c.args.excerpt.now in
    let line = (excerpt_row c.args.excerpt.now).line in
    let some : line ≡ [] → ⊥ = λ h. false≢true (sym c.if-is_blank.false ∙ c.is_blank.ensures ∙ eq-eqb _ _ (ap length h)) in
    let first = text_of c.args.out.now in
    let p : Text = 32 ∷ [] in
    let q : Text = p ++ shown (chars e.before.now) in
    let r : Text = q ++ shown (chars e.left.now) in
    let s : Text = r ++ shown (chars e.right.now) in
    let a = and_then first _ _ p (shown (chars e.before.now)) c.in_ok-put_char.ensures c.in_ok-put_shown.ensures in
    let b = and_then first _ _ q (shown (chars e.left.now)) a c.in_ok-put_shown-2.ensures in
    let d = and_then first _ _ r (shown (chars e.right.now)) b c.in_ok-put_shown-3.ensures in
    let all = and_last c.put_shown-4.result first _ _ s (shown (chars e.after.now)) d c.put_shown-4.ensures in
    as_last c.put_shown-4.result first _ (s ++ shown (chars e.after.now)) (spaced line) all
    (line_shown p (chars e.before.now) (chars e.left.now) (chars e.right.now) (chars e.after.now) ∙ spaced_some line some)
