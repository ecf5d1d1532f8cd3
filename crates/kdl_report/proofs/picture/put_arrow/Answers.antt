use Rattle.kdl_report.proofs.Appended.{and_last, and_then}
use Rattle.kdl_report.proofs.picture.put_arrow.Goals as goal

pub returns : goal.returns
returns c =
    let a = and_then _ _ _ _ _ c.in_ok-put_times.ensures c.in_ok-put_paint.ensures in
    let b = and_then _ _ _ _ _ a c.in_ok-put.ensures in
    let d = and_then _ _ _ _ _ b c.in_ok-put_paint-2.ensures in
    let e = and_then _ _ _ _ _ d c.in_ok-put_char.ensures in
    let f = and_then _ _ _ _ _ e c.in_ok-put_location.ensures in
    and_last c.put_char-2.result _ _ _ _ _ f c.put_char-2.ensures
