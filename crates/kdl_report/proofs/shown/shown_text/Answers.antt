use Rattle.std.proofs.Common.{◌∙◌, ◌++◌, ap}
use Rattle.kdl_report.specs.Shown.{shown_bytes}
use Rattle.kdl_report.proofs.Appended.{bytes_appended}
use Rattle.kdl_report.proofs.shown.shown_text.Goals as goal

pub returns : goal.returns
returns c = bytes_appended c.new-out.result c.put_shown.new.out _ c.in_ok-put_shown.ensures ∙ ap (λ z. z ++ shown_bytes c.args.text.now) c.new-out.ensures.bytes
