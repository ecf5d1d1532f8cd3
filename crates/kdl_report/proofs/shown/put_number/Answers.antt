use Rattle.std.proofs.Common.{◌≡◌, ◌++◌, ap, ◌∙◌, decimal}
use Rattle.std.specs.Str.{chars}
use Rattle.std.proofs.lemmas.Result.{on_ok_weaker}
use Rattle.std.proofs.lemmas.Str.{chars-IsAscii}
use Rattle.kdl_report.specs.Shown.{text_of}
use Rattle.kdl_report.proofs.shown.put_number.Goals as goal

pub returns : goal.returns
returns c =
    let same : chars c.format.result.now ≡ decimal c.args.n = chars-IsAscii _ c.format.ensures.ascii ∙ c.format.ensures.text in
    on_ok_weaker c.put.result (λ e. e ∙ ap (λ z. text_of c.args.out.now ++ z) same) c.put.ensures
