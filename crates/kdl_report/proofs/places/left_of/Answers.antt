use Rattle.std.proofs.Common.{◌++◌, sym, ap, ◌∙◌}
use Rattle.std.proofs.lemmas.List.{append_cancel_right}
use Rattle.kdl_report.specs.Places.{before, last_line}
use Rattle.kdl_report.specs.Spots.{spot_text}
use Rattle.kdl_report.proofs.places.left_of.Goals as goal

pub returns : goal.returns
returns c =
    append_cancel_right _ _ _ (sym c.cut.ensures ∙ c.requires.line_text ∙ ap (λ z. last_line (before c.args.spot.now.at (spot_text c.args.spot.now)) ++ z) (sym c.requires.rest))
