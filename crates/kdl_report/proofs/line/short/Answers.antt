use Rattle.std.proofs.Common.{◌≡◌, ◌++◌, [], ap, ◌∙◌, chars}
use Rattle.std.proofs.lemmas.Str.{chars-nil}
use Rattle.kdl_report.specs.Picture.{labelled, location, one_line}
use Rattle.kdl_report.specs.Shown.{shown, text_of}
use Rattle.kdl_report.proofs.Appended.{and_then, as_piece, same_place}
use Rattle.kdl_report.proofs.line.short.Goals as goal

pub returns : goal.returns
returns c =
    let none : text_of c.new-out.result ≡ [] = ap chars c.new-out.ensures.bytes ∙ chars-nil in
    let place = same_place c.place.result _ _ c.place.ensures.line c.place.ensures.column in
    let a = as_piece _ _ _ _ c.in_ok-put_location.ensures (ap (location (chars c.args.name.now)) place) in
    let b = and_then _ _ _ _ _ a c.in_ok-put.ensures in
    let d = and_then _ _ _ _ _ b (as_piece _ _ _ _ c.in_ok-put-2.ensures c.word_of.ensures) in
    let e = and_then _ _ _ _ _ d c.in_ok-put-3.ensures in
    let f = and_then _ _ _ _ _ e (as_piece _ _ _ _ c.in_ok-put_shown.ensures (ap shown c.message_of.ensures)) in
    let g = and_then _ _ _ _ _ f (as_piece _ _ _ _ c.in_ok-put_label.ensures (ap labelled c.optional.ensures.text)) in
    let h = and_then _ _ _ _ _ g c.in_ok-put_char.ensures in
    h ∙ ap (λ z. z ++ one_line (chars c.args.name.now) c.args.lines.now c.args.fault.now) none
