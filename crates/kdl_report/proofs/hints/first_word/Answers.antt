use Rattle.std.proofs.Common.{sym, ◌∙◌}
use Rattle.std.proofs.lemmas.List.{append_cancel_right}
use Rattle.kdl_report.proofs.hints.first_word.Goals as goal

pub returns : goal.returns
returns c = append_cancel_right _ _ _ (sym c.cut.ensures ∙ c.after_word.ensures)
