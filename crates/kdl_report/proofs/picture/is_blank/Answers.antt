use Rattle.std.proofs.Common.{nat_eq, length, ◌&&◌, ◌++◌, ap, ◌∙◌, chars}
use Rattle.kdl_report.proofs.Appended.{both_empty}
use Rattle.kdl_report.proofs.picture.is_blank.Goals as goal

pub returns : goal.returns
returns c =
    let e = c.args.excerpt.now in
    let left = chars e.before.now ++ chars e.left.now in
    ap (λ z. z && c.are_empty-2.result) c.are_empty.ensures ∙ ap (λ z. nat_eq (length left) 0 && z) c.are_empty-2.ensures
    ∙ both_empty left (chars e.right.now ++ chars e.after.now)
