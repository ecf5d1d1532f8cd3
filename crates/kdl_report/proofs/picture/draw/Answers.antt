use Rattle.std.proofs.Common.{◌≡◌, ℕ, option_map, subst, ap, ◌∙◌, chars}
use Rattle.kdl_report.specs.Picture.{arrow, drawn, margin_width, marked_lines, notes, picture}
use Rattle.kdl_report.specs.Shown.{Appends}
use Rattle.kdl_report.specs.Spots.{excerpt_row}
use Rattle.kdl_report.specs.Windows.{first_shown, last_shown}
use Rattle.kdl_report.proofs.Appended.{and_last, and_then, as_last, as_piece, same_place}
use Rattle.kdl_report.proofs.picture.draw.Goals as goal

pub returns : goal.returns
unfolding picture
returns c =
    let t = c.args.lines.now in
    let fault = c.args.fault.now in
    let w = c.margin_width.result in
    let hint = option_map (λ s. chars s.now) c.args.hint in
    let first : excerpt_row c.excerpts.result.0 ≡ first_shown fault.span t = c.excerpts.ensures.first in
    let last : option_map excerpt_row c.excerpts.result.1 ≡ last_shown fault.span t = c.excerpts.ensures.last in
    let width : w ≡ margin_width (first_shown fault.span t) (last_shown fault.span t) =
    c.margin_width.ensures ∙ ap (λ z. margin_width z (option_map excerpt_row c.excerpts.result.1)) first ∙ ap (margin_width (first_shown fault.span t)) last in
    let lines = ap (λ z. marked_lines c.args.color w fault z (option_map excerpt_row c.excerpts.result.1)) first ∙ ap (marked_lines c.args.color w fault (first_shown fault.span t)) last in
    let place = same_place c.place-place.result _ _ c.place-place.ensures.line c.place-place.ensures.column in
    let a = and_then _ _ _ _ _ c.in_ok-put_head.ensures (as_piece _ _ _ _ c.in_ok-put_arrow.ensures (ap (arrow c.args.color w (chars c.args.name.now)) place)) in
    let b = and_then _ _ _ _ _ a c.in_ok-put_empty_line.ensures in
    let d = and_then _ _ _ _ _ b (as_piece _ _ _ _ c.in_ok-put_excerpts.ensures lines) in
    let e = as_last c.put_notes.result _ _ _ _ c.put_notes.ensures (ap (λ z. notes c.args.color w z hint) c.optional.ensures.text) in
    let P : ℕ → Type 0 = λ k. Appends c.put_notes.result c.args.out.now c.put_notes.new.out (drawn c.args.color k (chars c.args.name.now) t fault hint) in
    subst P width (and_last c.put_notes.result _ _ _ _ _ d e)
