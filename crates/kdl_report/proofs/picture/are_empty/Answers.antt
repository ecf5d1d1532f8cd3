use Rattle.std.proofs.Common.{nat_eq, length, ◌&&◌, ap, ◌∙◌, chars}
use Rattle.kdl_report.proofs.Appended.{both_empty, empty_chars}
use Rattle.kdl_report.proofs.picture.are_empty.Goals as goal

pub returns : goal.returns
returns c =
    ap (λ z. z && c.is_empty-2.result) (c.is_empty.ensures ∙ empty_chars _ c.utf8.a)
    ∙ ap (λ z. nat_eq (length (chars c.args.a.now)) 0 && z) (c.is_empty-2.ensures ∙ empty_chars _ c.utf8.b)
    ∙ both_empty (chars c.args.a.now) (chars c.args.b.now)
