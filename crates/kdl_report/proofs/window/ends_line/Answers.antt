use Rattle.std.proofs.Common.{length, nat_eq, sym, ap, ◌∙◌}
use Rattle.kdl_report.specs.Places.{first_line}
use Rattle.kdl_report.proofs.WindowSteps.{line_ends}
use Rattle.kdl_report.proofs.window.ends_line.Goals as goal

pub returns-in-Some : goal.returns-in-Some
returns-in-Some c =
    c.is_newline_char.ensures ∙ line_ends _ _ ∙ ap (λ z. nat_eq (length (first_line z)) 0) (sym c.in-Some.ensures.parts)

pub returns-in-None : goal.returns-in-None
returns-in-None c = sym (ap (λ z. nat_eq (length (first_line z)) 0) c.in-None.ensures.parts)
