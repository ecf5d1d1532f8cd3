use Rattle.std.proofs.Common.{◌-◌, ap, ◌∙◌}
use Rattle.kdl_text.specs.Chars.{times}
use Rattle.kdl_report.proofs.Appended.{and_last, and_then, as_piece}
use Rattle.kdl_report.proofs.picture.put_source.Goals as goal

pub returns : goal.returns
returns c =
    let a = and_then _ _ _ _ _ c.in_ok-put_paint.ensures c.in_ok-put_number.ensures in
    let blanks = c.saturating_sub-blanks.ensures ∙ ap (λ z. c.args.margin.width - z) c.digits.ensures in
    let b = and_then _ _ _ _ _ a (as_piece _ _ _ _ c.in_ok-put_times.ensures (ap (λ z. times z 32) blanks)) in
    let d = and_then _ _ _ _ _ b c.in_ok-put.ensures in
    let e = and_then _ _ _ _ _ d c.in_ok-put_paint-2.ensures in
    let f = and_then _ _ _ _ _ e c.in_ok-put_line.ensures in
    and_last c.put_char.result _ _ _ _ _ f c.put_char.ensures
