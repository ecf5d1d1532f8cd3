use Rattle.std.proofs.Common.{◌≡◌, ◌++◌, [], ℕ, List, Option, option_map, ap, ◌∙◌, chars}
use Rattle.std.proofs.lemmas.Str.{chars-nil}
use Rattle.kdl_report.specs.Hints.{hint_at, hint_of}
use Rattle.kdl_report.specs.Picture.{picture}
use Rattle.kdl_report.specs.Shown.{text_of}
use Rattle.kdl_report.proofs.HintSteps.{hint_chars}
use Rattle.kdl_report.proofs.picture.render.Goals as goal

pub returns : goal.returns
returns c =
    let t = c.args.lines.now in
    let fault = c.args.fault.now in
    let P = λ (h : Option (List ℕ)). picture c.args.color (chars c.args.name.now) t fault h in
    let none : text_of c.new-out.result ≡ [] = ap chars c.new-out.ensures.bytes ∙ chars-nil in
    let hint = hint_chars c.hint_on-hint.result (hint_of t fault) (c.hint_on-hint.ensures ∙ ap hint_at c.rest.ensures) in
    c.in_ok-draw.ensures ∙ ap (λ z. text_of c.new-out.result ++ P z) hint ∙ ap (λ z. z ++ P (option_map chars (hint_of t fault))) none
