use Rattle.std.proofs.Common.{◌≡◌, ◌++◌, [], None, ap, ◌∙◌, chars}
use Rattle.std.proofs.lemmas.Str.{chars-nil}
use Rattle.kdl_report.specs.Picture.{picture}
use Rattle.kdl_report.specs.Shown.{text_of}
use Rattle.kdl_report.proofs.picture.render_without_hint.Goals as goal

pub returns : goal.returns
returns c =
    let drawn = picture c.args.color (chars c.args.name.now) c.args.lines.now c.args.fault.now None in
    let none : text_of c.new-out.result ≡ [] = ap chars c.new-out.ensures.bytes ∙ chars-nil in
    c.in_ok-draw.ensures ∙ ap (λ z. z ++ drawn) none
