use Rattle.std.proofs.Common.{Option, option_map, sym, subst, ap}
use Rattle.std.proofs.lemmas.Str.{chars-nil}
use Rattle.kdl_report.specs.Picture.{marked_line, marked_lines}
use Rattle.kdl_report.specs.Shown.{Appends}
use Rattle.kdl_report.specs.Spots.{excerpt_row}
use Rattle.kdl_report.specs.declared.window.Excerpt.{Excerpt}
use Rattle.kdl_report.proofs.Appended.{and_last, and_then, as_last, as_piece}
use Rattle.kdl_report.proofs.picture.put_excerpts.Goals as goal

pub returns-in_ok-put_gap-in-Some : goal.returns-in_ok-put_gap-in-Some
returns-in_ok-put_gap-in-Some c =
    let m = c.args.margin in
    let line = marked_line m.color m.width c.args.fault.now.severity in
    let P : Option Excerpt → Type 0 = λ o. Appends c.put_excerpt-in-Some.result c.args.out.now c.put_excerpt-in-Some.new.out (marked_lines m.color m.width c.args.fault.now (excerpt_row c.args.first.now) (option_map excerpt_row o)) in
    let a = as_piece _ _ _ _ c.in_ok-put_excerpt-in-Some.ensures (ap (line (excerpt_row c.args.first.now)) chars-nil) in
    let b = and_then _ _ _ _ _ a c.in_ok-put_gap-in-Some.ensures in
    let last = as_last c.put_excerpt-in-Some.result _ _ _ _ c.put_excerpt-in-Some.ensures (ap (line (excerpt_row c.in-Some.last)) c.label_of-label.ensures) in
    subst P (sym c.in-Some.is) (and_last c.put_excerpt-in-Some.result _ _ _ _ _ b last)
